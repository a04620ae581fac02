use Rattle.std.proofs.Common.{◌∙◌, ℕ, List, ap, rules, sym}
use Rattle.std.specs.Option.{option_and_then}
use borrow.Author.Tests.{tests}
use denote.Ref.{Bor}
use Rattle.std.proofs.lemmas.Iterator.{YieldsList-from_slice}
use Rattle.std.proofs.lemmas.Iterator.Search.{position_from_yields_List}
use Rattle.num_format_digits.specs.Digits.{set_numbered}
use Rattle.num_format_digits.specs.Tags.{is_word}
use Rattle.num_format_digits.proofs.TagLemmas.{set-place}
use Rattle.num_format_digits.proofs.tags.set_of_word.Goals as goal

pub returns-in_err-place : goal.returns-in_err-place
returns-in_err-place c =
    let first = position_from_yields_List (λ (set : Bor (List ℕ) × ℕ). is_word set.0.now c.args.word.now) _ _
    c.position.result c.position.ensures.ran (YieldsList-from_slice c.sets.result.now (cc)) (λ x b q k. search (rules, tests)) in
    let place = set-place c.args.word.now c.sets.result.now c.position.result c.sets.ensures.listed first in
    rw c.from_residual.ensures (ap (option_and_then set_numbered) (sym c.in_err-place.was ∙ place))

pub returns : goal.returns
returns c =
    let first = position_from_yields_List (λ (set : Bor (List ℕ) × ℕ). is_word set.0.now c.args.word.now) _ _
    c.position.result c.position.ensures.ran (YieldsList-from_slice c.sets.result.now (cc)) (λ x b q k. search (rules, tests)) in
    let place = set-place c.args.word.now c.sets.result.now c.position.result c.sets.ensures.listed first in
    c.from_number.ensures ∙ ap (option_and_then set_numbered) (sym c.in_ok-place.was ∙ place)
