-- The names of the locales fit a line.
use Rattle.std.proofs.Common.{◌≡◌, ℕ, ◌<◌, Bool, true, refl, sym, ◌∙◌, List, All, length, map, ap}
use lib.Utf8.{encode}
use Rattle.std.specs.Prelude.{nat_lt}
use Rattle.std.specs.Borrow.{Bor}
use Rattle.std.specs.List.{list_all}
use Rattle.std.proofs.lemmas.Bool.Decides.{Decides-ltb}
use Rattle.std.proofs.lemmas.List.Folds.{list_all-map}
use Rattle.std.proofs.lemmas.List.Sums.{AllPass-from_list_all}
use Rattle.num_format.specs.Families.{families}
use Rattle.num_format.specs.Table.{members, table_names}
use Rattle.regroup_commands.specs.declared.sending.TheConstants.{MAX_SENT_LINE_LEN}

-- each name is short enough for a line
short_names : list_all (λ name. nat_lt (length name) MAX_SENT_LINE_LEN) table_names ≡ true
unfolding encode families members table_names
short_names = refl

-- so each text of a list of the names is
pub names_fit : (names : List (Bor (List ℕ))) → map (λ name. name.now) names ≡ table_names
    → All (λ name. length name.now < MAX_SENT_LINE_LEN) names
names_fit names listed k d within =
    let is_short : List ℕ → Bool = λ name. nat_lt (length name) MAX_SENT_LINE_LEN in
    let all_short : list_all (λ name. is_short name.now) names ≡ true =
    sym (list_all-map is_short (λ name. name.now) names) ∙ ap (list_all is_short) listed ∙ short_names in
    (Decides-ltb _ _).0 (AllPass-from_list_all (λ name. is_short name.now) names all_short k d within)
