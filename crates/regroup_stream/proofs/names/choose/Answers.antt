use Rattle.std.proofs.Common.{ap, rules, sym, ◌∙◌}
use borrow.Author.Tests.{tests}
use Rattle.std.proofs.lemmas.Iterator.{YieldsList-from_slice}
use Rattle.std.proofs.lemmas.Iterator.Search.{position_from_yields_List}
use Rattle.regroup_lines.specs.Places.{one_field}
use Rattle.regroup_stream.specs.Names.{is_named_later, with_range_at}
use Rattle.regroup_stream.proofs.names.choose.Goals as goal

pub returns-in-Some : goal.returns-in-Some
returns-in-Some c =
    let list = c.args.list.now.items in
    let first = position_from_yields_List is_named_later _ _ c.position.result c.position.ensures.ran (YieldsList-from_slice list (cc))
    (λ x b q k. search (rules, tests)) in
    ap (λ place. with_range_at place (one_field c.args.number) list) (sym c.in-Some.is ∙ first)

pub returns-in_ok-push-in-None : goal.returns-in_ok-push-in-None
returns-in_ok-push-in-None c =
    let list = c.args.list.now.items in
    let first = position_from_yields_List is_named_later _ _ c.position.result c.position.ensures.ran (YieldsList-from_slice list (cc))
    (λ x b q k. search (rules, tests)) in
    c.in_ok-push-in-None.ensures.items ∙ ap (λ place. with_range_at place (one_field c.args.number) list) (sym c.in-None.is ∙ first)
