use Rattle.std.proofs.Common.{◌++◌, ap, arith, length, rules, take}
use Rattle.num_format_rewriting.specs.Rewriting.{images}
use Rattle.num_format_rewriting.proofs.DigitLemmas.{digit-written}
use Rattle.num_format_rewriting.proofs.put_digits.Goals as goal

pub loop-digit-preserved : goal.loop-digit-preserved
loop-digit-preserved g c =
    let image = g.I.Image.image c.args.map.now in
    let so_far = c.loop-digit.invariant in
    let first = c.in-Some.ensures in
    let left = ap length first.0 in (
      search rules,
      digit-written image c.loop-digit.array (take c.args.len c.args.array.now ++ images image c.args.text.now) c.loop-digit.left.now
          c.in-Some.rest.now c.loop-digit.end c.in-Some.digit (c.keeps_digits.ensures c.if-not-keeps_digits.false) so_far.0
          (omega (arith, left)) first.0 first.1 so_far.1,
      omega (arith, left),
      search rules,
      search rules,
    )
