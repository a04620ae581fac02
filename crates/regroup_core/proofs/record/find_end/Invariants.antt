use Rattle.regroup_core.proofs.Common.{Searched, length, ◌-◌}
use Rattle.regroup_core.proofs.record.find_end.Given as goal

-- no byte so far ends the part
abbrev pub invariant-stops : goal.invariant-stops
invariant-stops l = Searched l.quotes l.end l.fn.within l.text l.searched l.here

abbrev pub decreases-stops : goal.decreases-stops
decreases-stops l = length l.text - l.searched
