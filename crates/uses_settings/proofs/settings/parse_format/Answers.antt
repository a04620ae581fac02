use Rattle.std.proofs.Common.{◌≡◌, ap, sym, ◌∙◌, length, None, Some, rules}
use Rattle.std.proofs.lemmas.Iterator.Consumers.{YieldsList-end, YieldsList-turn}
use Rattle.std.proofs.lemmas.Iterator.Splits.{YieldsList-from_lines}
use Rattle.std.proofs.lemmas.List.{map-append}
use Rattle.std.proofs.lemmas.List.Elements.{All-push}
use Rattle.std.proofs.lemmas.Result.{err_from_is_err_and}
use Rattle.std.specs.Prelude.{fold, IsSome}
use Rattle.num_format.specs.Building.{built, choices_of}
use Rattle.num_format.specs.English.{english}
use Rattle.uses_settings.specs.Settings.{HasSettings, after_line, call_in, no_setting, too_long, ambiguous}
use Rattle.uses_settings.proofs.SettingsLemmas.{after_more, IsSome-call, None-call}
use Rattle.uses_settings.proofs.settings.parse_format.Goals as goal

pub returns-in_default-clause-refused : goal.returns-in_default-clause-refused
returns-in_default-clause-refused c =
    let t = YieldsList-turn (YieldsList-from_lines c.args.text.now (cc)) c.loop-line.yielded _ c.loop-line.yielded_by _ _ c.in-Some.line
    c.in-Some.is c.next.ensures.steps in
    let none : None ≡ c.with_setting.result = search rules in
    no_setting (length c.loop-line.yielded, c.in-Some.line.now, t.0, sym t.1, None-call _ _ (none ∙ c.with_setting.ensures)) c.new.ensures

pub loop-line-preserved : goal.loop-line-preserved
loop-line-preserved c =
    let set : Some c.in-Some-with_setting.next ≡ c.with_setting.result = search rules in (
      after_more (choices_of english) _ _ c.loop-line.yielded c.in-Some.line c.loop-line.invariant.0 (set ∙ c.with_setting.ensures),
      rw map-append (All-push (λ line. IsSome (call_in line)) _ _ c.loop-line.invariant.1
          (IsSome-call _ _ _ (set ∙ c.with_setting.ensures))),
    )

pub returns-in_err-format-clause-refused : goal.returns-in_err-format-clause-refused
returns-in_err-format-clause-refused c =
    let t = YieldsList-end (YieldsList-from_lines c.args.text.now (cc)) c.loop-line.yielded _ c.loop-line.yielded_by _ _ c.in-None.is
    c.next.ensures.steps in
    let done = c.loop-line.invariant.0 ∙ ap (fold after_line (choices_of english)) t.0 in
    let p = err_from_is_err_and c.from_residual.result c.from_residual.ensures.1 in
    let all : HasSettings c.args.text.now = rw (← t.0) c.loop-line.invariant.1 in
    rw (p.1, p.2) (too_long all (ap built (sym done) ∙ (sym c.build.ensures ∙ c.in_err-format.was)))

pub returns-then-not-reads_back-clause-refused : goal.returns-then-not-reads_back-clause-refused
returns-then-not-reads_back-clause-refused c =
    let t = YieldsList-end (YieldsList-from_lines c.args.text.now (cc)) c.loop-line.yielded _ c.loop-line.yielded_by _ _ c.in-None.is
    c.next.ensures.steps in
    let done = c.loop-line.invariant.0 ∙ ap (fold after_line (choices_of english)) t.0 in
    let all : HasSettings c.args.text.now = rw (← t.0) c.loop-line.invariant.1 in
    ambiguous all c.in_ok-format.format (ap built (sym done) ∙ (sym c.build.ensures ∙ c.in_ok-format.was))
    (λ every. let wrong = sym c.if-not-reads_back.true ∙ c.reads_back.ensures.1 every in cc) c.new-then-not-reads_back.ensures

pub returns-clause-format : goal.returns-clause-format
returns-clause-format c =
    let t = YieldsList-end (YieldsList-from_lines c.args.text.now (cc)) c.loop-line.yielded _ c.loop-line.yielded_by _ _ c.in-None.is
    c.next.ensures.steps in
    let done = c.loop-line.invariant.0 ∙ ap (fold after_line (choices_of english)) t.0 in
    ap built (sym done) ∙ (sym c.build.ensures ∙ c.in_ok-format.was)

pub returns-clause-settings : goal.returns-clause-settings
returns-clause-settings c =
    let t = YieldsList-end (YieldsList-from_lines c.args.text.now (cc)) c.loop-line.yielded _ c.loop-line.yielded_by _ _ c.in-None.is
    c.next.ensures.steps in
    let all : HasSettings c.args.text.now = rw (← t.0) c.loop-line.invariant.1 in
    all
