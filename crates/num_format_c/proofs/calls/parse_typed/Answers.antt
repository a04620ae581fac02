use Rattle.num_format_c.specs.Calls.{typed_numbers}
use Rattle.num_format_c.proofs.DigitLemmas.{others}
use Rattle.num_format_c.proofs.ParsingLemmas.{gets_shown}
use Rattle.num_format_c.proofs.calls.parse_typed.Goals as goal

pub returns-in-Some : goal.returns-in-Some
returns-in-Some g c = λ s is.
    gets_shown (typed_numbers g.N.Sealed.kind g.N.Sealed.value) is c.in-Some.number (others c.is_latin.ensures c.if-is_latin.false)
    c.in-Some.ensures
