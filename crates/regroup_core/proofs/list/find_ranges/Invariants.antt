use Rattle.regroup_core.proofs.Common.{drop, length, ◌≡◌}
use Rattle.regroup_core.proofs.RangeLemmas.{joined}
use Rattle.regroup_core.specs.Ranges.{ranges_of}
use Rattle.regroup_core.proofs.list.find_ranges.Given as goal

-- the ranges so far, and what is left of the list
abbrev pub invariant-loop-selector : goal.invariant-loop-selector
invariant-loop-selector l =
    (length l.ranges.items ≡ l.selector-index)
    × (ranges_of l.separation l.header 0 l.list
    ≡ joined l.ranges.items (ranges_of l.separation l.header l.selector-index (drop l.selector-index l.list)))
