use Rattle.num_format.specs.Text.{text_of}
use Rattle.num_format_c.proofs.DigitLemmas.{prints_latin}
use Rattle.num_format_c.proofs.calls.print.Goals as goal

pub returns-in-Ok : goal.returns-in-Ok
returns-in-Ok g c = prints_latin c.in-Ok.ensures (λ f. text_of f (g.N.Sealed.value c.args.number.now)) c.print_under.ensures
