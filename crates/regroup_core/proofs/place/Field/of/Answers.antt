use Rattle.regroup_core.proofs.Common.{ap, ◌∙◌}
use Rattle.regroup_core.proofs.PlaceLemmas.{after-found, before-found, text-found}
use Rattle.regroup_core.specs.Places.{blanks_after, blanks_before, trimmed}
use Rattle.regroup_core.proofs.place.Field.of.Goals as goal

pub returns-clause-before : goal.returns-clause-before
returns-clause-before c =
    before-found _ _ (c.trim_ascii_end-text.result.now) c.trim_ascii_start-rest.ensures.value
    ∙ ap blanks_before c.unquote-is_in_quotes.ensures.content

pub returns-clause-text : goal.returns-clause-text
returns-clause-text c =
    text-found _ _ _ c.trim_ascii_start-rest.ensures.value c.trim_ascii_end-text.ensures.value
    ∙ ap trimmed c.unquote-is_in_quotes.ensures.content

pub returns-clause-after : goal.returns-clause-after
returns-clause-after c =
    after-found _ _ _ c.trim_ascii_start-rest.ensures.value c.trim_ascii_end-text.ensures.value
    ∙ ap blanks_after c.unquote-is_in_quotes.ensures.content
