use Rattle.std.proofs.Common.{rules}
use Rattle.num_format_locale.proofs.SearchLemmas.{finds}
use Rattle.num_format_locale.proofs.search.search.Goals as goal
use Rattle.num_format_locale.proofs.search.search.Goals.{else-is_some-via-then-is_some+else-is_mixed, else-is_some-via-else-is_some}

pub returns-clause-found : goal.returns-clause-found
returns-clause-found c =
    elim c.else-is_some.branch [
      | else-is_some-via-then-is_some+else-is_mixed w ↦ finds _ _ _ (λ mixed. let yes = w.is_mixed.ensures.1 mixed
          in search rules) c.halve-place.ensures.found
      | else-is_some-via-else-is_some w ↦ search rules
    ]
