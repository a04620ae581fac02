-- Lemmas on texts with hyphens or underscores, and the names that they spell.
use Rattle.std.proofs.Common.{◌≡◌, ℕ, zero, suc, ◌<◌, ◌⊎◌, ◌||◌, inl, inr, List, [], ◌∷◌, length, map, Contains, arith, refl, sym, ap}
use Rattle.std.proofs.Common.{subst, ◌∙◌, slice_index_or, Bool, true, false, nat_eq, eq-eqb}
use Rattle.std.specs.List.{list_any}
use Rattle.std.proofs.lemmas.Bool.{eqb-true}
use Rattle.std.proofs.lemmas.Bool.Decides.{nat_tests}
use Rattle.num_format_locale.specs.Names.{Spells, underscore_for_hyphen}
use Rattle.num_format_locale.specs.Search.{IsMixed, hyphen_for_underscore, hyphened}

-- whether the byte is in the text
abbrev has : ℕ → List ℕ → Bool
has byte text = list_any (λ each. nat_eq each byte) text

-- the text with an underscore for every hyphen
abbrev underscored : List ℕ → List ℕ
underscored text = map underscore_for_hyphen text

-- of a disjunction that is false, both sides are
both_false : (a b : Bool) → (a || b) ≡ false → (a ≡ false) × (b ≡ false)
both_false true b h = cc
both_false false b h = (refl, h)

-- a byte that is in the text has a place in it
present : (byte : ℕ) (text : List ℕ) → has byte text ≡ true → Contains text byte
present byte [] h = cc
present byte (x ∷ xs) h =
    elim (nat_eq x byte) as (λ b. nat_eq x byte ≡ b → (b || has byte xs) ≡ true → Contains (x ∷ xs) byte) [
      | true ↦ λ same _. (0, omega arith, eqb-true x byte same)
      | false ↦ λ _ later. let at = present byte xs later in (suc at.0, (let within = at.1 in omega arith), at.2)
    ] refl h

-- a byte that is not in the text has no place in it
absent : (byte : ℕ) (text : List ℕ) → has byte text ≡ false → (k : ℕ) → k < length text → slice_index_or text k byte ≡ byte → ⊥
absent byte [] h k within same = omega arith
absent byte (x ∷ xs) h zero within same =
    let yes : nat_eq x byte ≡ true = eq-eqb x byte same in
    let no = (both_false _ _ h).0 in
    let both : true ≡ false = sym yes ∙ no in cc
absent byte (x ∷ xs) h (suc k) within same = absent byte xs (both_false _ _ h).1 k (omega arith) same

-- a text contains a byte or has it nowhere
decided : (byte : ℕ) (text : List ℕ) → Contains text byte ⊎ (has byte text ≡ false)
decided byte text =
    elim (has byte text) as (λ b. has byte text ≡ b → Contains text byte ⊎ (has byte text ≡ false)) [
      | true ↦ λ yes. inl (present byte text yes)
      | false ↦ λ no. inr no
    ] refl

-- a text with no underscore (95) is itself with hyphens for underscores
same_byte : (x : ℕ) → nat_eq x 95 ≡ false → hyphen_for_underscore x ≡ x
same_byte x other = grind (arith, nat_tests)

same_text : (text : List ℕ) → has 95 text ≡ false → hyphened text ≡ text
same_text [] none = refl
same_text (x ∷ xs) none = λ i. same_byte x (both_false _ _ none).0 i ∷ same_text xs (both_false _ _ none).1 i

-- a text with no hyphen (45) is itself with hyphens for underscores and back
byte_back : (x : ℕ) → nat_eq x 45 ≡ false → underscore_for_hyphen (hyphen_for_underscore x) ≡ x
byte_back x other = grind (arith, nat_tests)

text_back : (text : List ℕ) → has 45 text ≡ false → underscored (hyphened text) ≡ text
text_back [] none = refl
text_back (x ∷ xs) none = λ i. byte_back x (both_false _ _ none).0 i ∷ text_back xs (both_false _ _ none).1 i

-- a text that is not mixed spells the name that it is with hyphens for underscores
pub spells : (text name : List ℕ) → ¬ IsMixed text → hyphened text ≡ name → Spells text name
spells text name unmixed same =
    elim (decided 45 text) [
      | inl hyphen ↦ elim (decided 95 text) [
        | inl underscore ↦ absurd (unmixed (hyphen, underscore))
        | inr none ↦ inl (sym (same_text text none) ∙ same)
      ]
      | inr none ↦ inr (sym (text_back text none) ∙ ap underscored same)
    ]

-- a text with underscores for hyphens has no hyphen
other_byte : (x : ℕ) → nat_eq (underscore_for_hyphen x) 45 ≡ false
other_byte x = grind (arith, nat_tests)

no_hyphen : (text : List ℕ) → has 45 (underscored text) ≡ false
no_hyphen [] = refl
no_hyphen (x ∷ xs) = rw (other_byte x) (no_hyphen xs)

-- a text that spells a name is not mixed
pub unmixed : (text name : List ℕ) → ¬ Contains name 95 → Spells text name → ¬ IsMixed text
unmixed text name none (inl same) mixed = none (subst (λ t. Contains t 95) same mixed.1)
unmixed text name none (inr same) mixed =
    let hyphen : Contains (underscored name) 45 = subst (λ t. Contains t 45) same mixed.0 in
    absent 45 (underscored name) (no_hyphen name) hyphen.0 hyphen.1 hyphen.2
