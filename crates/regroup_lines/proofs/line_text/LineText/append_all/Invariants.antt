use Rattle.regroup_lines.proofs.Common.{flat_map, part_text, take}
use Rattle.regroup_lines.specs.Adding.{Adds}
use Rattle.regroup_lines.proofs.line_text.LineText.append_all.Given as goal

-- the parts so far were appended
abbrev pub invariant-loop-part : goal.invariant-loop-part
invariant-loop-part l = Adds l.fn.self l.self (flat_map part_text (take l.part-index l.parts))
