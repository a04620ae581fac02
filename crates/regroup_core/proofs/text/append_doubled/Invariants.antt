use Rattle.regroup_core.proofs.Common.{take, ◌++◌, ◌≡◌}
use Rattle.regroup_core.specs.Places.{doubled}
use Rattle.regroup_core.proofs.text.append_doubled.Given as goal

-- what is appended so far
abbrev pub invariant-loop-byte : goal.invariant-loop-byte
invariant-loop-byte l = l.out.items ≡ l.fn.out.items ++ doubled (take l.byte-index l.text)
