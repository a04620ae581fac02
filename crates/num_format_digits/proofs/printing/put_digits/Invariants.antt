use Rattle.std.proofs.Common.{◌≡◌, ◌≤◌, ◌*◌, drop, take}
use Rattle.num_format_digits.specs.Digits.{in_digits}
use Rattle.num_format_digits.proofs.printing.put_digits.Given as goal

-- each byte so far
abbrev pub invariant-loop-byte : goal.invariant-loop-byte
invariant-loop-byte l =
    (take l.len l.array ≡ in_digits l.digits (take l.byte-index l.text)) × (l.len ≤ 4 * l.byte-index)
    × (drop l.len l.array ≡ drop l.len l.fn.array)
