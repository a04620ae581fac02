use Rattle.std.proofs.Common.{◌≡◌, ℕ, refl, ap, ◌∙◌, rules, tests}
use Rattle.std.proofs.lemmas.Iterator.{YieldsList-from_map, YieldsList-from_slice}
use Rattle.std.proofs.lemmas.Iterator.Consumers.{reduce_from_yields_List}
use Rattle.std.proofs.lemmas.List.Folds.{max_of_map}
use Rattle.std.specs.Prelude.{max, unwrap_or}
use Rattle.num_format_decimal.specs.Text.{decimal_text}
use Rattle.uses_ledger.specs.Report.{widest, width, widths_of}
use Rattle.uses_ledger.specs.declared.entry.Entry.{Entry}
use Rattle.uses_ledger.specs.declared.report.Widths.{Widths}
use Rattle.uses_ledger.proofs.report.Widths.of.Goals as goal

-- widths are the same if both are
same_widths : (name amount : ℕ) (widths : Widths) → name ≡ widths.name → amount ≡ widths.amount
    → record { name = name; amount = amount } ≡ widths
same_widths name amount widths name_same amount_same = rw (name_same, amount_same) refl

pub returns : goal.returns
returns g c =
    let f = g.F.Format.answers c.args.format.now in
    let es = c.args.entries.now in
    let name_width = λ (e : Entry). width e.name.now in
    let amount_width = λ (e : Entry). width (decimal_text f e.amount) in
    let names : c.unwrap_or.result ≡ widest (λ e. e.name.now) es =
    c.unwrap_or.ensures ∙ ap (λ o. unwrap_or o 0) (reduce_from_yields_List _ c.map-names.result _ c.max.ensures.ran
    (YieldsList-from_map _ name_width (YieldsList-from_slice es (cc)) c.map-names.ensures.closure (λ x b q k. search (rules, tests))))
    ∙ max_of_map name_width es in
    let amounts : c.unwrap_or-2.result ≡ widest (λ e. decimal_text f e.amount) es =
    c.unwrap_or-2.ensures ∙ ap (λ o. unwrap_or o 0) (reduce_from_yields_List _ c.map-amounts.result _ c.max-3.ensures.ran
    (YieldsList-from_map _ amount_width (YieldsList-from_slice es (cc)) c.map-amounts.ensures.closure (λ x b q k. search (rules, tests))))
    ∙ max_of_map amount_width es in
    let name : c.max-2.result ≡ (widths_of f es).name = c.max-2.ensures ∙ ap (λ w. max w c.width.result) names
    ∙ ap (max (widest (λ e. e.name.now) es)) c.width.ensures in
    let amount : c.max-4.result ≡ (widths_of f es).amount =
    c.max-4.ensures ∙ ap (λ w. max w c.amount_width.result) amounts
    ∙ ap (max (widest (λ e. decimal_text f e.amount) es)) (c.amount_width.ensures ∙ ap (λ sum. width (decimal_text f sum)) c.requires) in
    same_widths _ _ (widths_of f es) name amount
