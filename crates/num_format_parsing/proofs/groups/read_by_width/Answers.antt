use Rattle.std.proofs.Common.{◌≤◌, ◌∙◌, ◌^◌, length, arith}
use Rattle.std.proofs.Math.Nat.{mod-eq_of_lt}
use Rattle.num_format_parsing.specs.Shapes.{byte_digits}
use Rattle.num_format_parsing.proofs.NumberLemmas.{number-few}
use Rattle.num_format_parsing.proofs.groups.read_by_width.Goals as goal

pub returns : goal.returns
returns c =
    let t = c.args.text.now in
    let read = c.in_ok-whole.ensures in
    let few : length (byte_digits t) ≤ 19 = omega (arith, read.1.digit_count, c.if-whole-gt-SAFE_DIGITS.false) in
    let many : c.args.least ≤ length (byte_digits t) = omega (arith, read.1.digit_count, c.if-whole-least.false) in
    (read.0, read.1.number ∙ mod-eq_of_lt (number-few (2 ^ 64) 19 t few (omega arith)), many)
