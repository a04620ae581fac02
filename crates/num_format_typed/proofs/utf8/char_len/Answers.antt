use Rattle.std.proofs.Common.{arith}
use Rattle.num_format_typed.proofs.Utf8Lemmas.{three, two}
use Rattle.num_format_typed.proofs.utf8.char_len.Goals as goal

pub returns-then-first-lt224 : goal.returns-then-first-lt224
returns-then-first-lt224 c = λ some.
    (omega arith, two c.args.bytes.now c.args.at (omega arith) (omega arith) (omega arith) (omega arith) (omega arith))

pub returns-then-is_continuation : goal.returns-then-is_continuation
returns-then-is_continuation c = λ some.
    let second = c.is_continuation.ensures c.if-not-is_continuation.false in
    let third = c.is_continuation-2.ensures c.if-is_continuation.true in (
      omega arith,
      three c.args.bytes.now c.args.at (omega arith) (omega arith) (omega arith) (λ same. omega arith) (omega (arith, second.0))
          (omega (arith, second.1)) (omega (arith, third.0)) (omega (arith, third.1)),
    )
