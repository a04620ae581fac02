use Rattle.std.proofs.Common.{◌≡◌, ◌+◌, ◌≤◌, ◌++◌, length, take}
use Rattle.std.specs.Prelude.{IsTrue}
use Rattle.num_format_digits.specs.Digits.{HasNoOthers, in_digits}
use Rattle.num_format_digits.proofs.digits.Digits.take_digits.Given as goal

-- each byte so far
abbrev pub invariant-loop-left : goal.invariant-loop-left
invariant-loop-left l = record {
  shown : l.text ≡ in_digits l.self (take l.len l.array) ++ l.left;
  plain : IsTrue l.is_plain → HasNoOthers (take l.len l.array);
  room : l.len + length l.left ≤ length l.array;
}

abbrev pub decreases-loop-left : goal.decreases-loop-left
decreases-loop-left l = length l.left
