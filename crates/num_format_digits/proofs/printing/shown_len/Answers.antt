use Rattle.std.proofs.Common.{◌∙◌, arith, get_or, length, sym}
use Rattle.std.proofs.lemmas.Grind.{common_steps}
use Rattle.num_format_digits.proofs.SetLemmas.{shown-width}
use Rattle.num_format_digits.proofs.printing.shown_len.Goals.{then-is_ascii_digit, else-is_ascii_digit}
use Rattle.num_format_digits.proofs.printing.shown_len.Goals as goal

pub loop-byte-preserved : goal.loop-byte-preserved
loop-byte-preserved c =
    let before = c.loop-byte.invariant in
    let z = c.args.digits in
    let digit = c.is_ascii_digit.ensures.value in
    elim c.if-is_ascii_digit.branch [
      | then-is_ascii_digit w ↦
          let wide = shown-width z (length c.zero_bytes-width.result.now) (get_or c.args.text.now c.loop-byte.byte-index 0)
          c.zero_bytes-width.result.now c.zero_bytes-width.ensures.set c.zero_bytes-width.ensures.bytes
          (sym digit ∙ w.if-is_ascii_digit.true) in
          let few = c.zero_bytes-width.ensures.few in
          (grind (arith, common_steps, before.0, wide, w.len-is), omega (arith, before.1, few, w.len-is))
      | else-is_ascii_digit w ↦
          (grind (arith, common_steps, before.0, digit, w.if-is_ascii_digit.false, w.len-is), omega (arith, before.1, w.len-is))
    ]
