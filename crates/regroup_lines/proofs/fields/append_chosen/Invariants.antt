use Rattle.regroup_lines.proofs.Common.{drop}
use Rattle.regroup_lines.proofs.ChosenLemmas.{Listed}
use Rattle.regroup_lines.proofs.fields.append_chosen.Given as goal

-- the ranges before those that are left were appended
abbrev pub invariant-loop-range : goal.invariant-loop-range
invariant-loop-range g l =
    let setup = l.fn.setup in
    Listed setup.rules.now l.fn.fields setup.parser setup.to.now l.fn.number l.fn.list l.fn.line l.start l.fn.text l.is_begun
    (drop l.range-index l.fn.list) l.cursor l.text
