use Rattle.regroup_core.proofs.Common.{length, ◌-◌}
use Rattle.regroup_core.proofs.LineLemmas.{Begun}
use Rattle.regroup_core.proofs.line.append_record.Given as goal

-- what is appended so far, and what is left
abbrev pub invariant-parts : goal.invariant-parts
invariant-parts g l =
    Begun l.plan (g.C.Codec.converted l.codec) l.fields l.fn.out.items l.kept l.start l.count l.out.items

abbrev pub decreases-parts : goal.decreases-parts
decreases-parts g l = length l.fields - l.start
