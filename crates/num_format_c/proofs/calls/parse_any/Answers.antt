use Rattle.std.proofs.Common.{inl, inr}
use Rattle.num_format_c.proofs.DigitLemmas.{latin}
use Rattle.num_format_c.proofs.ParsingLemmas.{gets_latin}
use Rattle.num_format_c.proofs.calls.parse_any.Goals as goal

pub returns-then-is_latin : goal.returns-then-is_latin
returns-then-is_latin g c = λ s is takes.
    gets_latin _ is (λ none. absurd (none takes)) (inl (latin c.is_latin.ensures c.if-is_latin.true)) c.parse_text.ensures
    c.crossed.ensures

pub returns-in-Err : goal.returns-in-Err
returns-in-Err g c = λ s is takes.
    gets_latin _ is (λ none. absurd (none takes)) (inr c.in-Err.ensures.cases.0) c.parse_text-in-Err.ensures c.crossed-in-Err.ensures
