use Rattle.std.proofs.Common.{refl, arith}
use Rattle.num_format_decimal.proofs.ParserLemmas.{parts_large, parts_zero}
use Rattle.num_format_decimal.proofs.ScaleLemmas.{too_large}
use Rattle.num_format_decimal.proofs.parser.DecimalParser.read_parts.Goals as goal

pub returns-in_default : goal.returns-in_default
returns-in_default g c =
    parts_large c.args.self.now c.args.whole.now c.args.decimals.now c.requires.digits c.requires.few c.in-Ok.amount.0 _ c.in-Ok.amount.1
    c.in-Ok.ensures refl (too_large c.in-Ok.amount.0 _ (omega (arith, c.in_default.ensures)))

pub returns-then-is_negative : goal.returns-then-is_negative
returns-then-is_negative g c = λ d among.
    parts_zero c.args.self.now c.args.whole.now c.args.decimals.now c.requires.digits c.requires.few c.in-Some.magnitude c.in-Ok.amount.1
    (rw c.if-is_negative.true at c.in-Ok.ensures) c.in-Some.ensures.1 c.if-magnitude-eq0.true c.mark.ensures.plain d
