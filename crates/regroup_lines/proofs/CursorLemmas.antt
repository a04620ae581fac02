-- The next field of a cursor.
use Rattle.regroup_lines.proofs.Common.{Bool, CsvState, Fields, List, Option, Start, [], ap, arith, drop, false, fields_of, if◌then◌else◌}
use Rattle.regroup_lines.proofs.Common.{le-leb, leb-false, leb-true, length, nat_le, quotes_of, refl, slice_range, sym, take, take_rest}
use Rattle.regroup_lines.proofs.Common.{true, ℕ, ◌+◌, ◌-◌, ◌<◌, ◌∙◌, ◌∷◌, ◌≡◌, ◌≤◌}
use Rattle.regroup_lines.proofs.FieldLemmas.{split-ended}
use Rattle.regroup_lines.proofs.RecordLemmas.{Ends}

module _ (cs : Fields) (text : List ℕ) where
  -- the fields from a place on, which may be past the end
  abbrev from_place : ℕ → List (List ℕ)
  from_place start = if nat_le start (length text) then fields_of cs (drop start text) else []

  pub left-next : (start : ℕ) → start ≤ length text → (quotes : Option ℕ) → quotes ≡ quotes_of cs → (len : ℕ) (there : CsvState)
      → Ends quotes cs.delimiter Start (slice_range text start (length text)) len there
      → from_place start ≡ take len (slice_range text start (length text)) ∷ from_place (start + len + 1)
  left-next start low quotes same len there ends =
      let split = split-ended cs quotes same text (slice_range text start (length text)) start len there low (take_rest text start) ends in
      let size : start + len - start ≡ len = omega arith in
      let field : slice_range text start (start + len) ≡ take len (slice_range text start (length text)) =
      ap (λ k. take k (drop start text)) size ∙ ap (take len) (sym (take_rest text start)) in
      rw (le-leb start (length text) low) (split.1 ∙ ap (λ l. l ∷ split.0) field
      ∙ ap (λ l. take len (slice_range text start (length text)) ∷ l) (by split.0 split.2 split.3 split.4
      (nat_le (start + len + 1) (length text)) refl))
    where
      by : (rest : List (List ℕ)) → (start + len ≡ length text → rest ≡ [])
          → (start + len < length text → rest ≡ fields_of cs (drop (start + len + 1) text)) → start + len ≤ length text → (is : Bool)
          → nat_le (start + len + 1) (length text) ≡ is → rest ≡ (if is then fields_of cs (drop (start + len + 1) text) else [])
      by rest last more within true is = let low = leb-true (start + len + 1) (length text) is in more (omega (arith, low))
      by rest last more within false is = let over = leb-false (start + len + 1) (length text) is in last (omega (arith, over, within))
