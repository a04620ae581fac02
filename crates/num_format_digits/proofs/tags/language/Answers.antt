use Rattle.std.proofs.Common.{◌∙◌, ap, rules, take}
use borrow.Author.Tests.{tests}
use Rattle.std.proofs.lemmas.Iterator.{YieldsList-from_slice}
use Rattle.std.proofs.lemmas.Iterator.Search.{position_from_yields_List}
use Rattle.num_format_locale.specs.Lookup.{ends_language}
use Rattle.num_format_digits.proofs.TagLemmas.{first_or_length}
use Rattle.num_format_digits.proofs.tags.language.Goals as goal

pub returns : goal.returns
returns c =
    let first = position_from_yields_List ends_language _ _ c.position-end.result c.position-end.ensures.ran
    (YieldsList-from_slice c.args.tag.now (cc)) (λ x b q k. search (rules, tests)) in
    ap (λ n. take n c.args.tag.now) (c.unwrap_or.ensures ∙ first_or_length ends_language c.args.tag.now c.position-end.result first)
