use Rattle.std.proofs.Common.{rules, to_z, w32}
use Rattle.num_format_decimal.specs.Text.{decimal_text}
use Rattle.num_format_c.specs.Calls.{ReturnsLength}
use Rattle.num_format_c.proofs.DigitLemmas.{returns_latin}
use Rattle.num_format_c.proofs.calls.decimal_len.Goals as goal

pub returns-in-Ok : goal.returns-in-Ok
returns-in-Ok c =
    let d = c.in_ok-number.number in
    let measured : ReturnsLength c.args.format.now (λ f. decimal_text f d) (to_z w32 c.text_len.result) =
    returns_latin c.in-Ok.ensures (λ f. decimal_text f d) (search (rules, c.text_len.ensures.length, c.text_len.ensures.fits)) in
    search (rules, measured)
