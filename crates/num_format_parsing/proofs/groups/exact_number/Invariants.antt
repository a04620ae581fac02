use Rattle.std.proofs.Common.{◌≡◌, ◌<◌, ◌^◌, take}
use Rattle.num_format_parsing.specs.Parts.{number_in}
use Rattle.num_format_parsing.proofs.groups.exact_number.Given as goal

abbrev pub invariant-loop-digit_count : goal.invariant-loop-digit_count
invariant-loop-digit_count g l = record {
  number : g.A.Accumulator.number l.number ≡ number_in (take l.digit_count l.text);
  below : g.A.Accumulator.number l.number < 10 ^ l.digit_count;
}
