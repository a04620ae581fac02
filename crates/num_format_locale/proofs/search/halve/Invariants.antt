use Rattle.std.proofs.Common.{◌-◌}
use Rattle.num_format_locale.proofs.SearchLemmas.{IsHalved}
use Rattle.num_format_locale.proofs.search.halve.Given as goal

-- the text is between the names before `low` and those from `high` on
abbrev pub invariant-loop-low : goal.invariant-loop-low
invariant-loop-low l = IsHalved l.text l.places.items l.low l.high

abbrev pub decreases-loop-low : goal.decreases-loop-low
decreases-loop-low l = l.high - l.low
