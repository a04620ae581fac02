use Rattle.std.proofs.Common.{◌^◌, arith}
use Rattle.num_format_parsing.proofs.ReadingLemmas.{fits_bound}
use Rattle.num_format_parsing.proofs.accumulator.U128Accumulator.push_digit.Goals as goal

pub overflow_mul-result : goal.overflow_mul-result
overflow_mul-result c = omega (
  arith,
  fits_bound 38 (2 ^ 128) c.args.self c.args.digit_count c.args.digit
      (omega arith) c.requires.digit_count c.requires.digit c.if-digit_count-lt-SAFE_WIDE_DIGITS.true,
)

pub overflow_add-result : goal.overflow_add-result
overflow_add-result c = omega (
  arith,
  fits_bound 38 (2 ^ 128) c.args.self c.args.digit_count c.args.digit
      (omega arith) c.requires.digit_count c.requires.digit c.if-digit_count-lt-SAFE_WIDE_DIGITS.true,
)
