use Rattle.std.proofs.Common.{arith}
use Rattle.num_format_typed.proofs.Utf8Lemmas.{longer, one}
use Rattle.num_format_typed.proofs.utf8.text_of.Goals as goal

pub loop-at-preserved-then-bytes-at-lt128 : goal.loop-at-preserved-then-bytes-at-lt128
loop-at-preserved-then-bytes-at-lt128 c = (
  omega arith,
  longer c.args.bytes.now c.loop-at.at 1 c.loop-at.invariant.1 (one c.args.bytes.now c.loop-at.at (omega arith)
      (omega arith)),
)

pub loop-at-preserved : goal.loop-at-preserved
loop-at-preserved c =
    let found = c.char_len-len.ensures (omega arith) in
    (found.0, longer c.args.bytes.now c.loop-at.at c.char_len-len.result c.loop-at.invariant.1 found.1)
