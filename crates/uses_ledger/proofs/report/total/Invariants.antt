use Rattle.std.proofs.Common.{◌≡◌, take}
use Rattle.num_format_decimal.specs.Values.{HasUnits}
use Rattle.uses_ledger.specs.Report.{sum_of}
use Rattle.uses_ledger.proofs.SumLemmas.{FitBelow}
use Rattle.uses_ledger.proofs.report.total.Given as goal

-- the sum is that of the entries so far, and no sum up to it is too large
abbrev pub invariant-loop-entry : goal.invariant-loop-entry
invariant-loop-entry l = (l.sum ≡ sum_of (take l.entry-index l.entries)) × HasUnits l.sum × FitBelow l.entries l.entry-index
