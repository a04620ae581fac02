use Rattle.num_format_c.specs.Calls.{numbers}
use Rattle.num_format_c.proofs.DigitLemmas.{others}
use Rattle.num_format_c.proofs.ParsingLemmas.{gets_shown}
use Rattle.num_format_c.proofs.calls.parse_strict_in.Goals as goal

pub returns-in-Some : goal.returns-in-Some
returns-in-Some g c =
    gets_shown (numbers g.N.Sealed.kind g.N.Sealed.value) c.in_ok-format.ensures c.in-Some.number
    (others c.is_latin.ensures c.if-not-is_latin.true) c.in-Some.ensures
