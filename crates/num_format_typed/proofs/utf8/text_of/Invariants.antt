use Rattle.std.proofs.Common.{◌≤◌, ◌-◌, length, take, IsUtf8}
use Rattle.num_format_typed.proofs.utf8.text_of.Given as goal

-- the bytes so far are UTF-8
abbrev pub invariant-loop-at : goal.invariant-loop-at
invariant-loop-at l = (l.at ≤ length l.bytes) × IsUtf8 (take l.at l.bytes)

abbrev pub decreases-loop-at : goal.decreases-loop-at
decreases-loop-at l = length l.bytes - l.at
