-- Which locale a text names.
use Rattle.std.proofs.Common.{◌≡◌, ℕ, ◌<◌, false, refl, List, [], length, Some, None, Result, Ok, Err, Decides, ap, arith}
use Rattle.std.specs.List.{position_or_len}
use Rattle.std.specs.Option.{ok_or, option_map}
use Rattle.std.specs.Result.{result_map_both}
use Rattle.std.proofs.lemmas.Bool.{cond_below, false_from_ne_true}
use Rattle.std.proofs.lemmas.Bool.Decides.{Decides-or}
use Rattle.std.proofs.lemmas.List.Sums.{position_or_len_is}
use Rattle.std.proofs.lemmas.Slice.Eq.{bytes_eq-Decides}
use Rattle.num_format.specs.Constants.{LEN}
use Rattle.num_format.specs.Families.{families}
use Rattle.num_format.specs.Table.{members, table_names}
use Rattle.num_format.specs.Error.{Error}
use Rattle.num_format.specs.Cut.{cut_text}
use Rattle.num_format.specs.Refusal.{ParseLocale, refusal_of}
use Rattle.num_format.specs.Data.{locale_data}
use Rattle.num_format.specs.Names.{LooksUp, Spells, name_of}
use Rattle.regroup_commands.specs.Locales.{is_spelling, locale_named}

-- there are as many names as places
length-table_names : length table_names ≡ LEN
unfolding families members table_names
length-table_names = refl

-- the test decides whether the text spells the name
pub is_spelling-Decides : (text name : List ℕ) → Decides (is_spelling text name) (Spells text name)
is_spelling-Decides text name = Decides-or _ _ (bytes_eq-Decides text name) (bytes_eq-Decides text _)

-- a result has one place
same_place : (p q : ℕ) (r : Result ℕ Error) → r ≡ Ok p → r ≡ Ok q → p ≡ q
same_place p q r first second = cc

-- the definition is what `from_name` returns
pub locale_named_from_LooksUp : (text : List ℕ) (r : Result ℕ Error) → LooksUp text r →
    result_map_both locale_data refusal_of r ≡ locale_named text
locale_named_from_LooksUp text (Ok place) looked_up =
    let within : place < LEN = looked_up.within in
    let others : (k : ℕ) → k < place → is_spelling text (name_of k) ≡ false = λ k below. false_from_ne_true _
    (λ passes. let same = same_place place k (Ok place) refl (looked_up.found k (omega arith)
    ((is_spelling-Decides text (name_of k)).0 passes)) in omega arith) in
    let first : position_or_len (is_spelling text) table_names ≡ place =
    position_or_len_is _ table_names place [] (omega (arith, length-table_names)) others
    (λ _. (is_spelling-Decides text (name_of place)).1 looked_up.spelled) in
    rw (first, length-table_names) (ap (λ o. ok_or (option_map locale_data o) (ParseLocale (cut_text text)))
    (cond_below place LEN (Some place) None looked_up.within))
locale_named_from_LooksUp text (Err error) looked_up =
    let first : position_or_len (is_spelling text) table_names ≡ LEN =
    position_or_len_is _ table_names LEN [] (omega (arith, length-table_names))
    (λ k below. false_from_ne_true _ (λ passes. looked_up.unspelled k below ((is_spelling-Decides text (name_of k)).0 passes)))
    (λ below. absurd (omega (arith, length-table_names))) in
    rw (first, length-table_names) (ap Err looked_up.refused)
