use Rattle.std.proofs.Common.{◌≡◌, ◌≤◌, ◌*◌, length, take}
use Rattle.num_format_digits.specs.Digits.{in_digits}
use Rattle.num_format_digits.proofs.printing.shown_len.Given as goal

-- each byte so far
abbrev pub invariant-loop-byte : goal.invariant-loop-byte
invariant-loop-byte l = (l.len ≡ length (in_digits l.fn.digits (take l.byte-index l.text))) × (l.len ≤ 4 * l.byte-index)
