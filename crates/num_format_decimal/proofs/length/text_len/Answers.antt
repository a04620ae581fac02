use Rattle.std.proofs.Common.{arith}
use Rattle.num_format_decimal.proofs.TextLemmas.{decimal_text-length, decimal_text-fits}
use Rattle.num_format_decimal.proofs.length.text_len.Goals as goal

pub returns-clause-length : goal.returns-clause-length
returns-clause-length g c = cc (decimal_text-length (g.F.Format.answers c.args.format.now) c.args.number.now)

pub returns-clause-fits : goal.returns-clause-fits
returns-clause-fits g c =
    let f = g.F.Format.answers c.args.format.now in
    let d = c.args.number.now in
    omega (
      arith,
      returns-clause-length g c,
      decimal_text-fits f d c.texts_fit.ensures.separator c.texts_fit.ensures.mark
          (omega (arith, c.sign_len.ensures.value, c.sign_len.ensures.bound))
          (omega (arith, c.magnitude.ensures.magnitude, c.magnitude.ensures.bound))
          (omega (arith, c.scale.ensures.scale, c.scale.ensures.bound)),
    )
