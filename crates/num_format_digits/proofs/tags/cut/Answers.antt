use Rattle.std.proofs.Common.{◌∙◌, ◌+◌, None, Some, rules, sym}
use borrow.Author.Tests.{tests}
use Rattle.std.proofs.lemmas.Iterator.{YieldsList-from_slice}
use Rattle.std.proofs.lemmas.Iterator.Search.{position_from_yields_List}
use Rattle.std.proofs.lemmas.List.{take_rest}
use Rattle.num_format_digits.specs.Tags.{divides}
use Rattle.num_format_digits.proofs.TagLemmas.{cut-parts, found-inside}
use Rattle.num_format_digits.proofs.tags.cut.Goals as goal

pub returns-in_err-end-clause-parts : goal.returns-in_err-end-clause-parts
returns-in_err-end-clause-parts c =
    let first = position_from_yields_List divides _ _ c.position.result c.position.ensures.ran
    (YieldsList-from_slice c.args.tag.now (cc)) (λ x b q k. search (rules, tests)) in
    rw c.from_residual.ensures (cut-parts c.args.tag.now None (sym c.in_err-end.was ∙ first))

pub returns-clause-parts : goal.returns-clause-parts
returns-clause-parts c =
    let first = position_from_yields_List divides _ _ c.position.result c.position.ensures.ran
    (YieldsList-from_slice c.args.tag.now (cc)) (λ x b q k. search (rules, tests)) in
    let found = sym c.in_ok-end.was ∙ first in
    rw (take_rest c.args.tag.now (c.in_ok-end.end + 1)) (cut-parts c.args.tag.now (Some c.in_ok-end.end) found
    (found-inside c.args.tag.now c.in_ok-end.end found))
