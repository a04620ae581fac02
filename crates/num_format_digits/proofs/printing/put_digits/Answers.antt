use Rattle.std.proofs.Common.{◌∙◌, arith}
use Rattle.std.proofs.lemmas.Grind.{common_steps}
use Rattle.num_format_digits.proofs.TextLemmas.{drop_later}
use Rattle.num_format_digits.proofs.printing.put_digits.Goals as goal

pub loop-byte-preserved : goal.loop-byte-preserved
loop-byte-preserved c =
    let put = c.put_byte-len.ensures in
    let before = c.loop-byte.invariant in (
      grind (arith, common_steps, before.0, put.text),
      omega (arith, before.1, put.bound),
      put.rest ∙ drop_later c.loop-byte.len c.put_byte-len.result c.loop-byte.array c.args.array.now put.from before.2,
    )
