-- The parts of a tag.
use Rattle.std.proofs.Common.{◌≡◌, ℕ, suc, ◌+◌, ◌<◌, ◌≤◌, inl, inr, Bool, true, false, cond, List, [], ◌∷◌, length, drop, take}
use Rattle.std.proofs.Common.{Option, Some, None, refl, ap, ◌∙◌, sym, arith}
use Rattle.std.specs.Prelude.{◌↔◌, IsTrue, MatchOption, bytes_eq, map, nat_lt, not, unwrap_or}
use Rattle.std.specs.List.{onto_first, position, position_or_len}
use denote.Ref.{Bor}
use Rattle.std.proofs.lemmas.Bool.{cases_Bool, ltb-false, ltb-true}
use Rattle.std.proofs.lemmas.List.{length-map}
use Rattle.std.proofs.lemmas.Slice.Eq.{bytes_eq-Decides}
use Rattle.std.proofs.lemmas.List.Splits.{slice_split_first}
use Rattle.std.proofs.lemmas.List.Sums.{prefix_len-le-length}
use Rattle.num_format_digits.specs.Sets.{sets}
use Rattle.num_format_digits.specs.Tags.{divides, is_word, or_empty, parts}

-- the place of the first byte that passes, or the length
pub first_or_length : (p : ℕ → Bool) (t : List ℕ) (found : Option ℕ) → found ≡ position p t
    → unwrap_or found (length t) ≡ position_or_len p t
first_or_length p t found is =
    let within : position_or_len p t ≤ length t = prefix_len-le-length (λ b. not (p b)) t in
    ap (λ o. unwrap_or o (length t)) is
    ∙ (elim (nat_lt (position_or_len p t) (length t)) as (λ b. nat_lt (position_or_len p t) (length t) ≡ b
    → unwrap_or (cond b (Some (position_or_len p t)) None) (length t) ≡ position_or_len p t) [
      | true ↦ λ _. refl
      | false ↦ λ no. let past : length t ≤ position_or_len p t = ltb-false (position_or_len p t) (length t) no in omega arith
    ] refl)

-- a tag that nothing divides is one part, and each tag has one
no_cut : (t : List ℕ) → position_or_len divides t ≡ length t → parts t ≡ t ∷ []
no_cut [] end = refl
no_cut (b ∷ t) end = elim (cases_Bool (divides b)) [
  | inl hyphen ↦ (let wrong : 0 ≡ suc (length t) = rw hyphen at end in absurd (omega arith))
  | inr other ↦ (let rest : 1 + position_or_len divides t ≡ suc (length t) = rw other at end in
      rw (other, no_cut t (omega arith)) refl)
]

pub cut-parts : (t : List ℕ) (found : Option ℕ) → found ≡ position divides t
    → MatchOption found (parts t ≡ t ∷ []) (λ i. i < length t → parts t ≡ take i t ∷ parts (drop (i + 1) t))
cut-parts t None is = no_cut t (sym (first_or_length divides t None is))
cut-parts t (Some i) is = λ inside.
    let first : i ≡ position_or_len divides t = first_or_length divides t (Some i) is in
    rw first (slice_split_first divides t 0 (omega arith))

-- the place is within the tag
pub found-inside : (t : List ℕ) (i : ℕ) → Some i ≡ position divides t → i < length t
found-inside t i is = elim (cases_Bool (nat_lt (position_or_len divides t) (length t))) [
  | inl inside ↦ (let e : Some i ≡ Some (position_or_len divides t) = rw inside at is in
      let same : i ≡ position_or_len divides t = cc in
      let below : position_or_len divides t < length t = ltb-true (position_or_len divides t) (length t) inside in omega arith)
  | inr outside ↦ (let wrong : Some i ≡ None = rw outside at is in cc)
]

-- the place of a set among the rows of the table
position-map : (p : List ℕ × ℕ → Bool) (rows : List (Bor (List ℕ) × ℕ))
    → position_or_len (λ r. p (r.0.now, r.1)) rows ≡ position_or_len p (map (λ r. (r.0.now, r.1)) rows)
position-map p [] = refl
position-map p (r ∷ rows) = elim (cases_Bool (p (r.0.now, r.1))) [
  | inl passes ↦ rw passes refl
  | inr fails ↦ rw fails (ap (λ n. 1 + n) (position-map p rows))
]

pub set-place : (word : List ℕ) (rows : List (Bor (List ℕ) × ℕ)) (found : Option ℕ) → map (λ r. (r.0.now, r.1)) rows ≡ sets
    → found ≡ position (λ set. is_word set.0.now word) rows → found ≡ position (λ set. is_word set.0 word) sets
set-place word rows found listed is =
    let p = λ (set : List ℕ × ℕ). is_word set.0 word in
    let all = map {B = List ℕ × ℕ} (λ (r : Bor (List ℕ) × ℕ). (r.0.now, r.1)) rows in
    is
    ∙ ap (λ n. cond (nat_lt n (length rows)) (Some n) None) (position-map p rows)
    ∙ ap (λ m. cond (nat_lt (position_or_len p all) m) (Some (position_or_len p all)) None)
    (sym (length-map {B = List ℕ × ℕ} rows (λ r. (r.0.now, r.1))))
    ∙ ap (position p) listed

pub parts-some : (t : List ℕ) → or_empty (parts t) ≡ parts t
parts-some [] = refl
parts-some (b ∷ t) = elim (cases_Bool (divides b)) [
  | inl hyphen ↦ rw hyphen refl
  | inr other ↦ rw other (onto b (parts t))
]
  where
    onto : (b : ℕ) (ps : List (List ℕ)) → or_empty (onto_first b ps) ≡ onto_first b ps
    onto b [] = refl
    onto b (p ∷ ps) = refl

pub decided : (xs ys : List ℕ) (b : Bool) → (IsTrue b ↔ (xs ≡ ys)) → b ≡ bytes_eq xs ys
decided xs ys true same = sym ((bytes_eq-Decides xs ys).1 (same.0 refl))
decided xs ys false same = elim (cases_Bool (bytes_eq xs ys)) [
  | inl alike ↦ (let wrong : false ≡ true = same.1 ((bytes_eq-Decides xs ys).0 alike) in cc)
  | inr other ↦ sym other
]
