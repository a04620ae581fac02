use Rattle.std.proofs.Common.{rules}
use Rattle.num_format_locale.specs.Search.{IsMixed}
use Rattle.num_format_locale.proofs.SearchLemmas.{mixed_spells_none, none_if_missing, spells_if_found}
use Rattle.num_format_locale.proofs.search.find.Goals as goal
use Rattle.num_format_locale.proofs.search.find.Goals.{else-is_some-via-then-is_some+else-is_mixed, else-is_some-via-else-is_some}

pub returns-then-is_mixed-clause-missing : goal.returns-then-is_mixed-clause-missing
returns-then-is_mixed-clause-missing c =
    let mixed : IsMixed c.args.text.now = search rules in
    mixed_spells_none c.args.text.now mixed

pub returns-clause-spelled : goal.returns-clause-spelled
returns-clause-spelled c =
    elim c.else-is_some.branch [
      | else-is_some-via-then-is_some+else-is_mixed w ↦ spells_if_found _ _ (λ mixed. let yes = w.is_mixed.ensures.1 mixed
          in search rules) c.find_hyphened-place.ensures.found
      | else-is_some-via-else-is_some w ↦ search rules
    ]

pub returns-clause-missing : goal.returns-clause-missing
returns-clause-missing c = none_if_missing _ _ c.find_hyphened-place.ensures.missing
