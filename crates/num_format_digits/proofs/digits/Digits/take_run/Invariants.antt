use Rattle.std.proofs.Common.{◌≡◌, ◌+◌, ◌≤◌, ◌++◌, ℕ, List, length, take}
use Rattle.num_format_digits.specs.Digits.{HasNoOthers, in_digits}
use Rattle.num_format_digits.proofs.digits.Digits.take_run.Given as goal

-- each digit so far
abbrev pub invariant-loop-digit : goal.invariant-loop-digit
invariant-loop-digit l = record {
  shown : (whole : List ℕ) → whole ≡ in_digits l.self (take l.start l.fn.array) ++ l.text
      → whole ≡ in_digits l.self (take l.len l.array) ++ l.left;
  plain : HasNoOthers (take l.start l.fn.array) → HasNoOthers (take l.len l.array);
  room : l.len + length l.left ≤ length l.array;
  shorter : length l.left ≤ length l.text;
}

abbrev pub decreases-loop-digit : goal.decreases-loop-digit
decreases-loop-digit l = length l.left
