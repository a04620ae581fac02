use Rattle.regroup_lines.proofs.Common.{DecimalResult, HasUtf8Texts, MarksDecimals, MatchOption, SFits, Some, ap, fixed_point, rules}
use Rattle.regroup_lines.proofs.Common.{subst, w128, ◌∙◌, ◌≡◌}
use Rattle.std.proofs.lemmas.Int.{to_z-of_z}
use Rattle.regroup_lines.proofs.TextLemmas.{lenient-accepted, lenient-refused, strict-read, strict-refused, typed-read}
use Rattle.regroup_lines.proofs.number.Parser.parse_ascii.Goals as goal

pub returns-in-Strict-Some : goal.returns-in-Strict-Some
returns-in-Strict-Some g c =
    let from = g.F.Format.answers c.self.inside.format.now in
    let same : c.in-Strict-Some.parser ≡ from =
    subst (λ decimals. MatchOption decimals (¬ (MarksDecimals from)) (λ p. p ≡ from)) c.in-Strict-Some.is-1 c.self.invariant.1 in
    rw (← c.self.view_is, c.in-Strict-Some.is-0, c.ok.ensures.value)
    (strict-read from c.args.text.now c.self.invariant.0 c.parse_bytes.result
    (subst (λ f. DecimalResult f c.args.text.now c.parse_bytes.result) same c.parse_bytes.ensures))

pub returns-in-Strict-None : goal.returns-in-Strict-None
returns-in-Strict-None g c =
    let from = g.F.Format.answers c.self.inside.format.now in
    let ambiguous =
    subst (λ decimals. MatchOption decimals (¬ (MarksDecimals from)) (λ p. p ≡ from)) c.in-Strict-None.is-1 c.self.invariant.1 in
    rw (← c.self.view_is, c.in-Strict-None.is-0) (strict-refused from c.args.text.now c.self.invariant.0
    (λ d parsed. ambiguous parsed.unambiguous))

pub returns-in-Typed-default : goal.returns-in-Typed-default
returns-in-Typed-default g c =
    let utf8 = subst (λ from. HasUtf8Texts from.format) c.self.view_is c.self.invariant.0 in
    rw (c.in-Typed-default.is-0, c.ok-in-Typed-default.ensures.value)
    (typed-read c.args.self.now.format c.args.text.now utf8 c.parse_typed.result c.parse_typed.ensures)

pub returns-in-Ok : goal.returns-in-Ok
returns-in-Ok g c =
    let from = g.F.Format.answers c.self.inside.format.now in
    let value = c.in-Ok.value in
    let fits : SFits w128 value = search rules in
    let whole = c.from.ensures ∙ ap (λ n. fixed_point n 0) (to_z-of_z w128 value fits) in
    rw (← c.self.view_is, c.in-Lenient-default.is-0)
    (ap Some whole ∙ lenient-accepted from c.args.text.now value c.in-Ok.ensures.number c.in-Ok.ensures.accepted)

pub returns-in-Err : goal.returns-in-Err
returns-in-Err g c =
    rw (← c.self.view_is, c.in-Lenient-default.is-0)
    (lenient-refused (g.F.Format.answers c.self.inside.format.now) c.args.text.now _ c.in-Err.ensures.not_utf8 c.in-Err.ensures.refused)
