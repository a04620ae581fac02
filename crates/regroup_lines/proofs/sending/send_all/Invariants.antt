use Rattle.regroup_lines.proofs.Common.{Appends, flat_map, take}
use Rattle.regroup_lines.proofs.sending.send_all.Given as goal

-- the parts so far were sent
abbrev pub invariant-loop-part : goal.invariant-loop-part
invariant-loop-part g l = Appends (g.W.Write.contents l.fn.w) (g.W.Write.contents l.w) (flat_map (λ part. part.now)
    (take l.part-index l.parts))
