use Rattle.std.proofs.Common.{ℕ, List, Ok, refl, ap, arith, length, subst, sym}
use Rattle.num_format_text.specs.Format.{FormatData}
use Rattle.num_format_typed.specs.Typed.{IsPrinted, TypedResult}
use Rattle.num_format_typed.proofs.rewriter.Rewriter.parse.Goals as goal

pub returns-in-Some : goal.returns-in-Some
returns-in-Some g c =
    let f = c.args.self.now in
    let t = c.args.bytes.now in
    let printed = subst (λ (f : FormatData). IsPrinted f t) c.requires.same c.in-Some.ensures.0 in
    let parsed = subst (λ (f : FormatData). g.P.Strict.Parses f t (Ok c.in-Some.number)) c.requires.same c.in-Some.ensures.1 in
    TypedResult.typed c.requires.taken printed.utf8 (omega (arith, ap length printed.same, printed.short)) (Ok c.in-Some.number)
    (subst (λ (u : List ℕ). g.P.Strict.Parses f u (Ok c.in-Some.number)) (sym printed.same) parsed) refl
