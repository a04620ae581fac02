-- The texts of the first rows of a column, and one row more.
use Rattle.std.proofs.Common.{◌≡◌, ◌≢◌, inl, inr, ℕ, zero, suc, ◌+◌, ◌*◌, ◌<◌, ◌≤◌, List, ◌++◌, length, refl, ap, ◌∙◌, arith, add-one}
use Rattle.std.proofs.Common.{length-append}
use Rattle.std.proofs.Math.Nat.{eq-or-lt_of_le}
use Rattle.std.proofs.lemmas.Bool.{cases_eq, eqb-true}
use Rattle.std.proofs.lemmas.Nat.{div-add-mod'}
use Rattle.std.specs.Prelude.{Some, None, ◌==◌, ◌&&◌, ◌/◌, ◌%◌, Bool, true, false, if◌then◌else◌}
use Rattle.num_format_c.specs.Layout.{Representation, covers, row_count, texts_of}
use Rattle.num_format_c.specs.declared.layout.validity.Validity.{Validity}

module _ (text : ℕ → List ℕ) where
  -- one more text
  pub texts_more : (i : ℕ) → texts_of text (i + 1) ≡ texts_of text i ++ text i
  texts_more i = ap (texts_of text) (add-one i)

  -- and its length
  pub length_texts_more : (i : ℕ) → length (texts_of text (i + 1)) ≡ length (texts_of text i) + length (text i)
  length_texts_more i = ap length (texts_more i) ∙ length-append (texts_of text i) (text i)

  -- the first texts are no longer than all
  pub length_texts_le : (i n : ℕ) → i ≤ n → length (texts_of text i) ≤ length (texts_of text n)
  length_texts_le i zero le =
      let none : i ≡ 0 = omega arith in
      omega (arith, ap (λ j. length (texts_of text j)) none)
  length_texts_le i (suc n) le =
      elim (eq-or-lt_of_le le) [
        | inl same ↦ omega (arith, ap (λ j. length (texts_of text j)) same)
        | inr under ↦ omega (arith, length_texts_le i n (omega arith), length-append (texts_of text n) (text n))
      ]

  -- one more is no longer than all
  pub length_texts_fit : (i n : ℕ) → i < n → length (texts_of text i) + length (text i) ≤ length (texts_of text n)
  length_texts_fit i n under = omega (arith, length_texts_more i, length_texts_le (i + 1) n (omega arith))

  -- one more offset, before others
  pub ends_more : (old new : ℕ → ℕ) (n i : ℕ) → ((j : ℕ) → i < j → j ≤ n → old j ≡ length (texts_of text j))
      → new i ≡ length (texts_of text i) →
      ((j : ℕ) → j ≢ i → new j ≡ old j) → (j : ℕ) → i ≤ j → j ≤ n → new j ≡ length (texts_of text j)
  ends_more old new n i after here others j from most =
      elim (cases_eq j i) as (λ _. new j ≡ length (texts_of text j)) [
        | inl same ↦ rw same here
        | inr other ↦ others j other ∙ after j (omega arith) most
      ]

-- one row more has a property that each before it has, where nothing else changed
pub row_more : {A B : Type 0} (P : ℕ → A → B → Type 0) (a b : ℕ → A) (c d : ℕ → B) (n : ℕ) → ((k : ℕ) → k < n → P k (a k) (c k))
    → P n (b n) (d n) →
    ((k : ℕ) → k ≢ n → b k ≡ a k) → ((k : ℕ) → k ≢ n → d k ≡ c k) → (k : ℕ) → k < n + 1 → P k (b k) (d k)
row_more P a b c d n before here same alike k below =
    elim (cases_eq k n) as (λ _. P k (b k) (d k)) [
      | inl is ↦ rw is here
      | inr other ↦ rw (same k other, alike k other) (before k (omega arith))
    ]

-- values that are whole
whole_if : (b c : Bool) (len size n : ℕ) → (b ≡ true → len % size ≡ 0) → (if b && c then Some (len / size) else None) ≡ Some n
    → len ≡ n * size
whole_if true true len size n none is =
    let count : len / size ≡ n = cc in
    omega (arith, div-add-mod' len size, none refl, ap (λ m. m * size) count)
whole_if true false len size n none is = cc
whole_if false c len size n none is = cc

pub whole_rows : (t : Representation) (values : List ℕ) (v : Validity) (n : ℕ) → row_count t values v ≡ Some n → length values ≡ n * t.size
whole_rows t values v n is =
    whole_if (length values % t.size == 0) (covers v (length values / t.size)) (length values) t.size n
    (eqb-true (length values % t.size) 0) is
