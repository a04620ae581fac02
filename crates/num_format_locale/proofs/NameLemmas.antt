-- Lemmas on the names of locales and their places.
use Rattle.std.proofs.Common.{◌≡◌, ◌≢◌, ℕ, suc, ◌<◌, inl, inr, List, [], ◌∷◌, length, map, Contains, slice_index_or, arith, refl, sym, ap}
use Rattle.std.proofs.Common.{◌∙◌}
use Rattle.std.specs.Borrow.{Bor}
use Rattle.std.specs.Cmp.{nat_cmp_is}
use Rattle.std.specs.Cmp.Lexicographic.{slice_cmp}
use Rattle.std.specs.FinMap.{nat_cmp-IsAntisymmetric}
use Rattle.std.specs.Ordering.{nat_cmp, ordering_reverse}
use Rattle.std.specs.declared.cmp.Ordering.TheVariants.{Less, Equal, Greater}
use Rattle.std.proofs.Math.Nat.{eq-or-lt_of_le}
use Rattle.std.proofs.lemmas.Bool.{cases_lt}
use Rattle.std.proofs.lemmas.Bool.Decides.{nat_tests}
use Rattle.std.proofs.lemmas.Cmp.{nat_list_cmp_total, tied_itself}
use Rattle.std.proofs.lemmas.List.{get_or-map, length-map}
use Rattle.num_format_cldr.specs.declared.TheConstants.{LEN}
use Rattle.num_format_cldr.specs.Entry.{Rises}
use Rattle.num_format_cldr.specs.Table.{members, table_names}
use Rattle.num_format_cldr.proofs.Places.{length-members}
use Rattle.num_format_cldr.proofs.Rising.{names_rise, names_have_no_underscore}
use Rattle.num_format_locale.specs.Laws.{OrderLaw, UniqueLaw}
use Rattle.num_format_locale.specs.Names.{Spells, name_of, underscore_for_hyphen}
use Rattle.num_format_locale.specs.Search.{hyphen_for_underscore, hyphened}

-- a byte that is no underscore (95) stays, also with an underscore for a hyphen and back
same_byte : (x : ℕ) → x ≢ 95 → hyphen_for_underscore x ≡ x
same_byte x other = grind (arith, nat_tests)

byte_back : (x : ℕ) → x ≢ 95 → hyphen_for_underscore (underscore_for_hyphen x) ≡ x
byte_back x other = grind (arith, nat_tests)

-- of a text with no underscore, the first byte is none, and the rest has none
other_first : (x : ℕ) (xs : List ℕ) → ¬ Contains (x ∷ xs) 95 → x ≢ 95
other_first x xs none same = none (0, omega arith, same)

other_rest : (x : ℕ) (xs : List ℕ) → ¬ Contains (x ∷ xs) 95 → ¬ Contains xs 95
other_rest x xs none at = none (suc at.0, (let within = at.1 in omega arith), at.2)

-- such a text, and its form with underscores, give the text itself with hyphens for underscores
same_name : (xs : List ℕ) → ¬ Contains xs 95 → map hyphen_for_underscore xs ≡ xs
same_name [] none = refl
same_name (x ∷ xs) none = λ i. same_byte x (other_first x xs none) i ∷ same_name xs (other_rest x xs none) i

name_back : (xs : List ℕ) → ¬ Contains xs 95 → map hyphen_for_underscore (map underscore_for_hyphen xs) ≡ xs
name_back [] none = refl
name_back (x ∷ xs) none = λ i. byte_back x (other_first x xs none) i ∷ name_back xs (other_rest x xs none) i

-- the name that a text spells is the text with hyphens for underscores
pub spelled_name : (text name : List ℕ) → ¬ Contains name 95 → Spells text name → hyphened text ≡ name
spelled_name text name none (inl same) = ap hyphened same ∙ same_name name none
spelled_name text name none (inr same) = ap hyphened same ∙ name_back name none

-- there are as many names as places
pub length-table_names : length table_names ≡ LEN
unfolding table_names
length-table_names = length-map members _ ∙ length-members

-- no name has an underscore
pub no_underscore : (place : ℕ) → place < LEN → ¬ Contains (name_of place) 95
no_underscore place within = names_have_no_underscore place [] (omega (arith, length-table_names))

-- texts that rise
module _ (texts : List (List ℕ)) (rise : Rises texts) where
  -- places compare as their texts do
  pub places_compare : (p q : ℕ) → p < length texts → q < length texts
      → slice_cmp nat_cmp (slice_index_or texts p []) (slice_index_or texts q []) ≡ nat_cmp p q
  places_compare p q within_p within_q =
      elim (cases_lt p q) [
        | inl less ↦ rise p q less within_q ∙ nat_cmp_is p q Less less
        | inr not_less ↦ elim (eq-or-lt_of_le not_less) [
          | inl same ↦
              ap (λ place. slice_cmp nat_cmp (slice_index_or texts p []) (slice_index_or texts place [])) same
              ∙ tied_itself nat_list_cmp_total (slice_index_or texts p []) ∙ nat_cmp_is p q Equal (sym same)
          | inr more ↦
              nat_list_cmp_total.antisymm (slice_index_or texts p []) (slice_index_or texts q [])
              ∙ ap ordering_reverse (rise q p more within_p) ∙ nat_cmp_is p q Greater more
        ]
      ]

  -- texts at different places are different
  pub same_place : (p q : ℕ) → p < length texts → q < length texts → slice_index_or texts p [] ≡ slice_index_or texts q [] → p ≡ q
  same_place p q within_p within_q same =
      nat_cmp-IsAntisymmetric p q
      (sym (places_compare p q within_p within_q) ∙ ap (λ text. slice_cmp nat_cmp text (slice_index_or texts q [])) same
      ∙ tied_itself nat_list_cmp_total (slice_index_or texts q []))

-- places compare as their names do
pub order : OrderLaw
order p q within_p within_q =
    places_compare table_names names_rise p q (omega (arith, length-table_names)) (omega (arith, length-table_names))

-- a text spells at most one name
pub unique : UniqueLaw
unique text p q within_p within_q spells_p spells_q =
    same_place table_names names_rise p q (omega (arith, length-table_names)) (omega (arith, length-table_names))
    (sym (spelled_name text _ (no_underscore p within_p) spells_p) ∙ spelled_name text _ (no_underscore q within_q) spells_q)

-- what a reference to a name points to
pub name_at : (names : List (Bor (List ℕ))) (place : ℕ) (d : Bor (List ℕ)) → map (λ name. name.now) names ≡ table_names
    → place < length names → (slice_index_or names place d).now ≡ name_of place
name_at names place d listed within =
    sym (get_or-map (λ name. name.now) names place d [] within) ∙ ap (λ all. slice_index_or all place []) listed
