use Rattle.std.proofs.Common.{arith}
use Rattle.num_format_digits.proofs.SetLemmas.{some_number}
use Rattle.num_format_digits.proofs.digits.Digits.number.Goals as goal

pub unreachable-requires : goal.unreachable-requires
unreachable-requires c =
    let at = some_number c.args.self c.zero-zero.ensures.set in
    c.loop-number.invariant at.0 (omega (arith, at.1)) at.2
