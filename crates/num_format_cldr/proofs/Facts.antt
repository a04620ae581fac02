-- What holds of every entry, whatever its name.
use Rattle.std.proofs.Common.{◌≡◌, ◌≢◌, ℕ, ◌<◌, ◌≤◌, List, [], ◌∷◌, length, encode_utf8_all, refl, sym, ap, subst, arith, Bool, true, false}
use Rattle.std.proofs.Common.{◌&&◌, nat_eq, nat_le, if◌then◌else◌}
use Rattle.std.specs.List.{list_all, list_any}
use Rattle.std.specs.Str.{chars}
use Rattle.std.specs.Cmp.{first_so, second_so}
use Rattle.std.proofs.lemmas.Bool.{eqb-true, leb-true}
use Rattle.std.proofs.lemmas.List.Elements.{All-weaker}
use Rattle.std.proofs.lemmas.List.Sums.{AllPass-from_list_all}
use Rattle.std.proofs.lemmas.Map.Views.{Contains-from_any}
use lib.Utf8.{encode}
use Rattle.num_format_text.specs.declared.capacities.TheConstants.{MAX_DEC_LEN, MAX_INF_LEN, MAX_MIN_LEN, MAX_NAN_LEN, MAX_PLUS_LEN}
use Rattle.num_format_text.specs.declared.capacities.TheConstants.{MAX_SEP_LEN}
use Rattle.num_format_cldr.specs.declared.TheConstants.{LEN}
use Rattle.num_format_cldr.specs.Entry.{IsWellFormed}
use Rattle.num_format_text.specs.Characters.{HasOnly, minus_sign_characters, separator_characters}
use Rattle.num_format_cldr.specs.Classes.{Class, A, B, C, D, E, F, G, H, decimal_mark_of, separator_of}
use Rattle.num_format_cldr.specs.Families.{Member}
use Rattle.num_format_cldr.specs.Unusual.{Unusual, value_for}
use Rattle.num_format_cldr.specs.Groupings.{grouping_of, unusual_groupings, standard}
use Rattle.num_format_cldr.specs.Infinities.{infinity_of, unusual_infinities}
use Rattle.num_format_cldr.specs.Signs.{signs, signs_of, unusual_signs}
use Rattle.num_format_cldr.specs.Nans.{nan_of, unusual_nans}
use Rattle.num_format_cldr.specs.Table.{entry, entry_of}
use Rattle.num_format_cldr.proofs.Places.{member, entry-member}

-- what both values pass, the chosen one passes
if_passes : {X : Type 0} (test : X → Bool) (b : Bool) (x y : X) → test x ≡ true → test y ≡ true → test (if b then x else y) ≡ true
if_passes test true x y hx hy = hx
if_passes test false x y hx hy = hy

-- what the usual value and each unusual one pass, the value for a name passes
value_passes : {X : Type 0} (test : X → Bool) (name : List ℕ) (lines : List (Unusual X)) (usual : X) → test usual ≡ true
    → list_all (λ line. test line.value) lines ≡ true → test (value_for name lines usual) ≡ true
value_passes test name [] usual hu h = hu
value_passes test name (line ∷ lines) usual hu h =
    if_passes test (line.is_for name) line.value (value_for name lines usual) (first_so _ _ h)
    (value_passes test name lines usual hu (second_so _ _ h))

-- whether a text has at most so many bytes
abbrev fits : ℕ → List ℕ → Bool
fits capacity text = nat_le (length (encode_utf8_all text)) capacity

-- whether it has one byte at least, too
abbrev fits_given : ℕ → List ℕ → Bool
fits_given capacity text = nat_le 1 (length (encode_utf8_all text)) && fits capacity text

-- whether it has only characters of a list
abbrev has_only : List ℕ → List ℕ → Bool
has_only characters text = list_all (λ c. list_any (nat_eq c) characters) (chars (encode_utf8_all text))

-- what the tests say
within : (capacity : ℕ) (text : List ℕ) → fits capacity text ≡ true → length (encode_utf8_all text) ≤ capacity
within capacity text h = leb-true _ _ h

given : (capacity : ℕ) (text : List ℕ) → fits_given capacity text ≡ true → encode_utf8_all text ≢ []
given capacity text h none =
    let some : 1 ≤ length (encode_utf8_all text) = leb-true _ _ (first_so _ _ h) in
    let empty : length (encode_utf8_all text) ≡ 0 = ap length none in
    absurd (omega arith)

only : (characters text : List ℕ) → has_only characters text ≡ true → HasOnly characters (encode_utf8_all text)
only characters text h =
    All-weaker _ _ (λ c. Contains-from_any eqb-true c characters) _
    (AllPass-from_list_all (λ c. list_any (nat_eq c) characters) (chars (encode_utf8_all text)) h)

-- each text of the definition passes its test
decimal_mark_fits : (c : Class) → fits MAX_DEC_LEN (decimal_mark_of c) ≡ true
unfolding encode
decimal_mark_fits A = refl
decimal_mark_fits B = refl
decimal_mark_fits C = refl
decimal_mark_fits D = refl
decimal_mark_fits E = refl
decimal_mark_fits F = refl
decimal_mark_fits G = refl
decimal_mark_fits H = refl

separator_fits : (c : Class) → fits_given MAX_SEP_LEN (separator_of c) ≡ true
unfolding encode
separator_fits A = refl
separator_fits B = refl
separator_fits C = refl
separator_fits D = refl
separator_fits E = refl
separator_fits F = refl
separator_fits G = refl
separator_fits H = refl

separator_has_only : (c : Class) → has_only separator_characters (separator_of c) ≡ true
unfolding encode chars
separator_has_only A = refl
separator_has_only B = refl
separator_has_only C = refl
separator_has_only D = refl
separator_has_only E = refl
separator_has_only F = refl
separator_has_only G = refl
separator_has_only H = refl

grouping_fits : (name : List ℕ) → nat_le (grouping_of name) 2 ≡ true
grouping_fits name = value_passes (λ group. nat_le group 2) name unusual_groupings standard refl refl

infinity_fits : (name : List ℕ) → fits MAX_INF_LEN (infinity_of name) ≡ true
unfolding encode
infinity_fits name = value_passes (fits MAX_INF_LEN) name unusual_infinities _ refl refl

minus_fits : (name : List ℕ) → fits_given MAX_MIN_LEN (signs_of name).minus ≡ true
unfolding encode
minus_fits name = value_passes (λ its. fits_given MAX_MIN_LEN its.minus) name unusual_signs (signs "-" "+") refl refl

minus_has_only : (name : List ℕ) → has_only minus_sign_characters (signs_of name).minus ≡ true
unfolding encode chars
minus_has_only name = value_passes (λ its. has_only minus_sign_characters its.minus) name unusual_signs (signs "-" "+") refl refl

plus_fits : (name : List ℕ) → fits MAX_PLUS_LEN (signs_of name).plus ≡ true
unfolding encode
plus_fits name = value_passes (λ its. fits MAX_PLUS_LEN its.plus) name unusual_signs (signs "-" "+") refl refl

nan_fits : (name : List ℕ) → fits MAX_NAN_LEN (nan_of name) ≡ true
unfolding encode
nan_fits name = value_passes (fits MAX_NAN_LEN) name unusual_nans _ refl refl

-- so every entry is well formed, whatever its name
entry_of_is_well_formed : (m : Member) → IsWellFormed (entry_of m)
entry_of_is_well_formed m = record {
  dec = within _ _ (decimal_mark_fits m.class);
  group = leb-true _ _ (grouping_fits m.name);
  inf = within _ _ (infinity_fits m.name);
  min = within _ _ (second_so _ _ (minus_fits m.name));
  nan = within _ _ (nan_fits m.name);
  plus = within _ _ (plus_fits m.name);
  sep = within _ _ (second_so _ _ (separator_fits m.class));
  min_given = given _ _ (minus_fits m.name);
  min_characters = only minus_sign_characters (signs_of m.name).minus (minus_has_only m.name);
  sep_given = given _ _ (separator_fits m.class);
  sep_characters = only separator_characters (separator_of m.class) (separator_has_only m.class);
}

-- and with it the entry at each place
pub entry_is_well_formed : (place : ℕ) → place < LEN → IsWellFormed (entry place)
entry_is_well_formed place h = subst IsWellFormed (sym (entry-member place h)) (entry_of_is_well_formed (member place))
