-- Rows of bytes, of which one is written.
use Rattle.std.proofs.Common.{◌≡◌, ◌≢◌, inl, inr, ℕ, ◌+◌, ◌-◌, ◌*◌, ◌≤◌, List, length, take, drop, ap, sym, ◌∙◌, arith}
use Rattle.std.proofs.lemmas.Nat.{row_fits}
use Rattle.std.proofs.lemmas.Slice.{between_is, take-put_mid_below, drop-put_mid}
use Rattle.std.proofs.lemmas.Bool.{cases_lt}
use borrow.Rule.Slice.PartMut.{put_mid}
use Rattle.num_format_c.specs.Layout.{row_bytes}

module _ (size row k : ℕ) (old new : List ℕ) (fits : row * size + size ≤ length old) (long : length new ≡ size) (whole : k ≡ size) where
  -- each other row stays
  pub row_left : (j : ℕ) → j ≢ row → row_bytes size (put_mid (row * size) k old new) j ≡ row_bytes size old j
  row_left j other =
      elim (cases_lt j row) [
        | inl under ↦
            (let before : j * size + size ≤ row * size = row_fits j size row size under (omega arith) in
            let all = put_mid (row * size) k old new in
            between_is all (j * size) (j * size + size) ∙ ap (drop (j * size))
            (take-put_mid_below (row * size) k old new (j * size + size) before (omega arith))
            ∙ sym (between_is old (j * size) (j * size + size)))
        | inr above ↦
            (let after : row * size + size ≤ j * size = row_fits row size j size (omega arith) (omega arith) in
            ap (take (j * size + size - j * size)) (drop-put_mid (row * size) k old new (j * size) (omega arith) (omega arith)
            (omega arith)))
      ]
