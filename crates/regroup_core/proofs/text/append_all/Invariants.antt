use Rattle.regroup_core.proofs.Common.{flat_map, take, ◌++◌, ◌≡◌}
use Rattle.regroup_core.specs.Parts.{part_text}
use Rattle.regroup_core.proofs.text.append_all.Given as goal

-- what is appended so far
abbrev pub invariant-loop-part : goal.invariant-loop-part
invariant-loop-part l = l.out.items ≡ l.fn.out.items ++ flat_map part_text (take l.part-index l.parts)
