use Rattle.std.proofs.Common.{◌∙◌, arith}
use Rattle.std.proofs.Math.Nat.{mod-eq_of_lt}
use Rattle.num_format_parsing.proofs.NumberLemmas.{number-few}
use Rattle.num_format_parsing.proofs.reading.read_by.Goals as goal

pub returns-then-whole-safe_digits : goal.returns-then-whole-safe_digits
returns-then-whole-safe_digits g c =
    let safe = c.safe_digits.ensures in
    let read = c.in-Some.ensures in
    let few = number-few g.A.Accumulator.bound g.A.Accumulator.safe c.args.text.now
    (omega (arith, read.1.digit_count, safe.value, c.if-whole-safe_digits.true)) safe.below in
    (read.0, c.number.ensures ∙ read.1.number ∙ mod-eq_of_lt few)
