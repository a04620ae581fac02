use Rattle.std.proofs.Common.{rules, take}
use borrow.Author.Tests.{tests}
use Rattle.std.proofs.lemmas.Iterator.{YieldsList-from_slice}
use Rattle.std.proofs.lemmas.Iterator.Search.{position_from_yields_List}
use Rattle.num_format_locale.specs.Lookup.{ends_language}
use Rattle.num_format_locale.proofs.LookupLemmas.{language_of_head}
use Rattle.num_format_locale.proofs.lookup.language.Goals as goal

pub returns : goal.returns
returns c =
    let first = position_from_yields_List ends_language _ _ c.position-end.result c.position-end.ensures.ran
    (YieldsList-from_slice (take c.min.result c.args.tag.now) (cc)) (λ x b q k. search (rules, tests)) in
    language_of_head c.args.tag.now c.min.result c.unwrap_or.result c.position-end.result (search rules) first (search rules)
