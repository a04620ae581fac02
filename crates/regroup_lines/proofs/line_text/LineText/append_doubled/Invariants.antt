use Rattle.regroup_lines.proofs.Common.{doubled, take}
use Rattle.regroup_lines.specs.Adding.{Adds}
use Rattle.regroup_lines.proofs.line_text.LineText.append_doubled.Given as goal

-- the bytes so far were appended
abbrev pub invariant-loop-byte : goal.invariant-loop-byte
invariant-loop-byte l = Adds l.fn.self l.self (doubled (take l.byte-index l.text))
