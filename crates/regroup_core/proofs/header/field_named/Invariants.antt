use Rattle.regroup_core.proofs.Common.{length, ◌-◌}
use Rattle.regroup_core.proofs.HeaderLemmas.{Sought}
use Rattle.regroup_core.proofs.header.field_named.Given as goal

-- what was found so far, and what is left
abbrev pub invariant-parts : goal.invariant-parts
invariant-parts l = Sought l.separation l.name l.fields l.found l.start l.count

abbrev pub decreases-parts : goal.decreases-parts
decreases-parts l = length l.fields - l.start
