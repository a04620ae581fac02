use Rattle.std.proofs.Common.{◌≡◌, ◌-◌, ◌/◌, ◌^◌, ◌≤◌, ◌++◌, ◌+◌, length}
use Rattle.num_format_int.specs.Groups.{last_digits, plain}
use Rattle.num_format_decimal.proofs.buffer.DecimalBuffer.put_last_digits.Given as goal

abbrev pub invariant-loop-put : goal.invariant-loop-put
invariant-loop-put l = record {
  text : l.self ≡ plain (last_digits l.put l.n) ++ l.fn.self;
  long : length l.self ≡ l.put + length l.fn.self;
  rest : l.left ≡ l.n / 10 ^ l.put;
  within : l.put ≤ l.count;
}

abbrev pub decreases-loop-put : goal.decreases-loop-put
decreases-loop-put l = l.count - l.put
