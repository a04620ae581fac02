use Rattle.std.proofs.Common.{Ok, inr}
use Rattle.num_format_c.proofs.DigitLemmas.{others}
use Rattle.num_format_c.proofs.ParsingLemmas.{gets_shown}
use Rattle.num_format_c.proofs.calls.parse_in.Goals as goal

pub returns-in-Some : goal.returns-in-Some
returns-in-Some g c = λ s is takes.
    let shown = c.in-Some.ensures in
    gets_shown _ is c.in-Some.number (others c.is_latin.ensures c.if-not-is_latin.true) (shown.0, inr (takes, shown.1))
