use Rattle.std.proofs.Common.{◌≡◌, take, true}
use Rattle.std.specs.Char.{is_ascii_digit}
use Rattle.std.specs.List.{list_all}
use Rattle.num_format_parsing.specs.Parts.{HasDigits}
use Rattle.num_format_parsing.proofs.groups.read_digits.Given as goal

abbrev pub invariant-loop-digit_count : goal.invariant-loop-digit_count
invariant-loop-digit_count g l = record {
  digits : list_all is_ascii_digit (take l.digit_count l.text) ≡ true;
  read : HasDigits g.A.Accumulator.bound (take l.digit_count l.text) l.digit_count (g.A.Accumulator.number l.magnitude);
}
