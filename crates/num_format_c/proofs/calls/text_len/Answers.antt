use Rattle.std.proofs.Common.{rules}
use Rattle.num_format.specs.Text.{text_of}
use Rattle.num_format_c.proofs.DigitLemmas.{returns_latin}
use Rattle.num_format_c.proofs.calls.text_len.Goals as goal

pub returns-in-Ok : goal.returns-in-Ok
returns-in-Ok g c =
    returns_latin c.in-Ok.ensures (λ f. text_of f (g.N.Sealed.value c.args.number.now))
    (search (rules, c.text_len.ensures.length, c.text_len.ensures.fits))
