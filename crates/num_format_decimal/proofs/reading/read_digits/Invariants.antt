use Rattle.num_format_decimal.proofs.ReadLemmas.{HasDigits}
use Rattle.num_format_decimal.proofs.reading.read_digits.Given as goal

abbrev pub invariant-loop-byte : goal.invariant-loop-byte
invariant-loop-byte l = HasDigits l.text l.byte-index l.n
