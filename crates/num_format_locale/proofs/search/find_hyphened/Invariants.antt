use Rattle.std.proofs.Common.{◌-◌}
use Rattle.num_format_locale.proofs.SearchLemmas.{IsNarrowed}
use Rattle.num_format_locale.proofs.search.find_hyphened.Given as goal

-- the text's name, if it has one, is at a place from `low` on and before `high`
abbrev pub invariant-loop-low : goal.invariant-loop-low
invariant-loop-low l = IsNarrowed l.text l.low l.middle l.high

abbrev pub decreases-loop-low : goal.decreases-loop-low
decreases-loop-low l = l.high - l.low
