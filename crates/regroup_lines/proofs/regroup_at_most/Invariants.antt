use Rattle.regroup_lines.proofs.Common.{◌≡◌, ◌+◌, array_len, held, by_writer}
use Rattle.regroup_lines.proofs.ProgressLemmas.{Progress}
use Rattle.regroup_lines.proofs.regroup_at_most.Given as goal

-- so many lines were sent, and the array has one byte more than a line may have
abbrev pub invariant-loop-lines : goal.invariant-loop-lines
invariant-loop-lines g l =
    Progress l.setup.rules.now l.setup.name.now l.most l.setup.parser l.setup.to.now l.lines l.number l.has_faults
    (held l.input)
    (g.R.Read.remaining l.fn.r) (g.R.Read.remaining l.r)
    (by_writer (g.W.Write.contents l.fn.w) (g.E.Write.contents l.fn.e) (g.X.Write.contents l.fn.x))
    (by_writer (g.W.Write.contents l.w) (g.E.Write.contents l.e) (g.X.Write.contents l.x))
    × (array_len l.input ≡ l.setup.rules.now.max_line_len + 1)
