use Rattle.std.proofs.Common.{inr, ℕ, List, Result, Ok, subst}
use Rattle.num_format.specs.Format.{FormatData}
use Rattle.num_format.specs.StrictError.{StrictError}
use Rattle.num_format_typed.specs.Typed.{ParsesTyped, TypedResult}
use Rattle.num_format_c.proofs.calls.parse_typed_shown.Goals as goal

-- a format under which a number is parsed is taken
takes : {X : Type 0} (Takes : FormatData → Type 0) (P : FormatData → List ℕ → Result X StrictError → Type 0) (f : FormatData) (t : List ℕ)
    (x : X) → TypedResult Takes P f t (Ok x) → Takes f
takes Takes P f t x (TypedResult.format_refused wrong is) = absurd (cc is)
takes Takes P f t x (TypedResult.no_text taken wrong is) = taken
takes Takes P f t x (TypedResult.too_long taken utf8 long is) = taken
takes Takes P f t x (TypedResult.typed taken utf8 fits s r is) = taken

pub returns-in-Ok : goal.returns-in-Ok
returns-in-Ok g c =
    let text = c.in_ok-len.ensures.text in
    let format = g.F.Format.answers c.args.format.now in
    let parsed = subst (λ t. ParsesTyped g.N.Sealed.kind g.N.Sealed.value format t (Ok c.in-Ok.number)) text.2 c.in-Ok.ensures in
    (text.0, inr (takes _ _ _ _ c.in-Ok.number parsed, (text.1, parsed)))
