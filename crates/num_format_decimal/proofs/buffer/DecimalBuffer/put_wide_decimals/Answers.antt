use Rattle.std.proofs.Common.{arith}
use Rattle.num_format_decimal.proofs.PrintLemmas.{wide_digits}
use Rattle.num_format_decimal.proofs.TextLemmas.{mark-some}
use Rattle.num_format_decimal.proofs.buffer.DecimalBuffer.put_wide_decimals.Goals as goal

pub returns-clause-text : goal.returns-clause-text
returns-clause-text g c =
    let digits =
    wide_digits c.args.count c.args.n _ _ c.args.self.now c.put_last_digits.new.self c.put_last_digits-2.new.self
    c.if-count-lt-NINETEEN_DIGITS.false c.requires.empty c.split-high.ensures.whole c.split-high.ensures.rest
    c.put_last_digits.ensures.text c.put_last_digits-2.ensures.text in
    cc (
      digits,
      c.put_mark.ensures.text,
      mark-some (g.F.Format.answers c.args.format.now) c.args.count (omega (arith, c.if-count-lt-NINETEEN_DIGITS.false)),
    )
