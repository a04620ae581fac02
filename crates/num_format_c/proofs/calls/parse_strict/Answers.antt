use Rattle.std.proofs.Common.{inl, refl}
use Rattle.num_format.specs.StrictError.TheVariants as cause
use Rattle.num_format_c.specs.Calls.{numbers}
use Rattle.num_format_c.proofs.DigitLemmas.{format_in}
use Rattle.num_format_c.proofs.ParsingLemmas.{ambiguous, gets_latin, strict_ambiguous}
use Rattle.num_format_c.proofs.calls.parse_strict.Goals as goal

pub returns-in-Ok : goal.returns-in-Ok
returns-in-Ok g c =
    let parsed = c.from_strict_bytes.ensures in
    gets_latin (numbers g.N.Sealed.kind g.N.Sealed.value) (format_in c.in-Ok.ensures)
    (λ none. ambiguous cause.AmbiguousFormat c.crossed.ensures refl refl (strict_ambiguous parsed none)) (inl refl) parsed
    c.crossed.ensures
