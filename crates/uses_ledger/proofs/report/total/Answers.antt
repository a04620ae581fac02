use Rattle.std.proofs.Common.{◌∙◌, ap, subst, take, rules}
use Rattle.std.proofs.lemmas.List.{take_all}
use Rattle.num_format_decimal.specs.Values.{HasUnits}
use Rattle.uses_ledger.specs.Report.{sum_of}
use Rattle.uses_ledger.proofs.SumLemmas.{all_fit, sum_by_units}
use Rattle.uses_ledger.proofs.report.total.Goals as goal

pub returns-clause-units : goal.returns-clause-units
returns-clause-units c = λ one.
    let es = c.args.entries.now in
    c.loop-entry.invariant.0 ∙ ap sum_of (take_all c.loop-entry.entry-index es (search rules)) ∙ sum_by_units es one

pub returns-clause-fits : goal.returns-clause-fits
returns-clause-fits c =
    let es = c.args.entries.now in
    let i = c.loop-entry.entry-index in
    let last : HasUnits (sum_of (take i es)) = subst HasUnits c.loop-entry.invariant.0 c.loop-entry.invariant.1 in
    all_fit es i (search rules) last c.loop-entry.invariant.2
