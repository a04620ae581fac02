-- The lengths of the names.
use Rattle.std.proofs.Common.{◌≡◌, ℕ, ◌<◌, ◌≤◌, List, [], length, refl, ap, sym, ◌∙◌, arith, Bool, true, nat_le, map, slice_index_or, subst}
use Rattle.std.proofs.Common.{Bor, leb-true}
use Rattle.std.specs.List.{list_all}
use Rattle.std.proofs.lemmas.List.{get_or-map}
use Rattle.std.proofs.lemmas.List.Sums.{AllPass-from_list_all}
use lib.Utf8.{encode}
use Rattle.num_format.specs.Constants.{LEN}
use Rattle.num_format.specs.Families.{families}
use Rattle.num_format.specs.Names.{name_of}
use Rattle.num_format.specs.Table.{members, table_names}
use Rattle.num_format_digits.specs.declared.printing.TheConstants.{MAX_DIGIT_TEXT_LEN}

-- whether a name is no longer than the text of a number in a digit set may be
abbrev is_short : List ℕ → Bool
is_short name = nat_le (length name) MAX_DIGIT_TEXT_LEN

-- computed over all names
all_short : list_all is_short table_names ≡ true
unfolding encode families members table_names
all_short = refl

length_names : length table_names ≡ LEN
unfolding families members table_names
length_names = refl

-- each name is
pub short : (place : ℕ) → place < LEN → length (name_of place) ≤ MAX_DIGIT_TEXT_LEN
short place within = leb-true _ _ (AllPass-from_list_all is_short table_names all_short place [] (omega (arith, length_names)))

-- so is each name behind a reference
pub short_at : (names : List (Bor (List ℕ))) → map (λ name. name.now) names ≡ table_names → length names ≡ LEN →
    (place : ℕ) (d : Bor (List ℕ)) → place < length names → length (slice_index_or names place d).now ≤ MAX_DIGIT_TEXT_LEN
short_at names listed count place d within =
    let same : (slice_index_or names place d).now ≡ name_of place =
    sym (get_or-map (λ name. name.now) names place d [] within) ∙ ap (λ all. slice_index_or all place []) listed in
    subst (λ name. length name ≤ MAX_DIGIT_TEXT_LEN) (sym same) (short place (omega (arith, count)))
