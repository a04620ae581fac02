use Rattle.std.proofs.Common.{ℕ, List, Ok, Err, IsUtf8, ◌≡◌, ◌∙◌, ap, refl, subst, length, rules, arith}
use Rattle.num_format_text.specs.Format.{FormatData}
use Rattle.num_format_typed.specs.Typed.{TypedResult, rewritten, typed_text}
use Rattle.num_format_typed.specs.declared.error.TypedError.TheVariants.{Number}
use Rattle.num_format_typed.proofs.rewriter.Rewriter.parse_rewritten.Goals as goal

pub returns-in-Ok : goal.returns-in-Ok
returns-in-Ok g c =
    let f = g.F.Format.answers c.args.format.now in
    let t = c.in-Some.text.now in
    let utf8 : IsUtf8 t = search rules in
    let same : c.in-Some-rewrite.typed.now ≡ typed_text f t = c.in-Some-rewrite.ensures.text
    ∙ ap (λ (f : FormatData). rewritten f c.without_ends-trimmed.result.now) c.typable.ensures
    ∙ ap (rewritten f) c.without_ends-trimmed.ensures.value in
    subst (λ (t : List ℕ). TypedResult g.P.Strict.Taken g.P.Strict.Parses f t (Ok c.in-Ok.number)) c.in-Some.ensures
    (TypedResult.typed c.requires.taken utf8 (omega (arith, ap length same, c.in-Some-rewrite.ensures.fits)) (Ok c.in-Ok.number)
    (subst (λ (t : List ℕ). g.P.Strict.Parses f t (Ok c.in-Ok.number)) same (search rules)) refl)

pub returns : goal.returns
returns g c =
    let f = g.F.Format.answers c.args.format.now in
    let t = c.in-Some.text.now in
    let utf8 : IsUtf8 t = search rules in
    let same : c.in-Some-rewrite.typed.now ≡ typed_text f t = c.in-Some-rewrite.ensures.text
    ∙ ap (λ (f : FormatData). rewritten f c.without_ends-trimmed.result.now) c.typable.ensures
    ∙ ap (rewritten f) c.without_ends-trimmed.ensures.value in
    subst (λ (t : List ℕ). TypedResult g.P.Strict.Taken g.P.Strict.Parses f t (Err (Number c.placed.result))) c.in-Some.ensures
    (TypedResult.typed c.requires.taken utf8 (omega (arith, ap length same, c.in-Some-rewrite.ensures.fits)) (Err c.in-Err.error)
    (subst (λ (t : List ℕ). g.P.Strict.Parses f t (Err c.in-Err.error)) same (search rules)) (ap (λ e. Err (Number e)) c.placed.ensures))
