use Rattle.num_format_locale.specs.Search.{hyphened}
use Rattle.num_format_locale.proofs.LookupLemmas.{IsLeft}
use Rattle.num_format_locale.proofs.lookup.longest_match.Given as goal

-- no beginning of the language that is longer than `end` is a name
abbrev pub invariant-loop-place : goal.invariant-loop-place
invariant-loop-place l = IsLeft (hyphened l.language) l.end

abbrev pub decreases-loop-place : goal.decreases-loop-place
decreases-loop-place l = l.end
