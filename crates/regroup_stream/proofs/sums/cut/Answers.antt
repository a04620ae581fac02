use Rattle.std.proofs.Common.{◌∙◌, ◌+◌, None, Some, rules, sym}
use borrow.Author.Tests.{tests}
use Rattle.std.proofs.lemmas.Iterator.{YieldsList-from_slice}
use Rattle.std.proofs.lemmas.Iterator.Search.{position_from_yields_List}
use Rattle.std.proofs.lemmas.List.{take_rest}
use Rattle.regroup_stream.specs.Columns.{is_tab}
use Rattle.regroup_stream.proofs.TabLemmas.{cut-texts}
use Rattle.regroup_stream.proofs.sums.cut.Goals as goal

pub returns-in_err-tab-clause-texts : goal.returns-in_err-tab-clause-texts
returns-in_err-tab-clause-texts c =
    let first = position_from_yields_List is_tab _ _ c.position.result c.position.ensures.ran
    (YieldsList-from_slice c.args.line.now (cc)) (λ x b q k. search (rules, tests)) in
    rw c.from_residual.ensures (cut-texts c.args.line.now None (sym c.in_err-tab.was ∙ first))

pub returns-clause-texts : goal.returns-clause-texts
returns-clause-texts c =
    let first = position_from_yields_List is_tab _ _ c.position.result c.position.ensures.ran
    (YieldsList-from_slice c.args.line.now (cc)) (λ x b q k. search (rules, tests)) in
    rw (take_rest c.args.line.now (c.in_ok-tab.tab + 1))
    (cut-texts c.args.line.now (Some c.in_ok-tab.tab) (sym c.in_ok-tab.was ∙ first)).1
