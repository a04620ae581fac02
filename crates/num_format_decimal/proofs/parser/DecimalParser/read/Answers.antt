use Rattle.std.proofs.Common.{Err}
use Rattle.num_format_decimal.specs.declared.parser.Fault.TheVariants.{NotCanonical}
use Rattle.num_format_decimal.proofs.ParserLemmas.{cut_either}
use Rattle.num_format_decimal.proofs.parser.DecimalParser.read.Goals as goal

pub returns-then-has_unexpected : goal.returns-then-has_unexpected
returns-then-has_unexpected g c =
    cut_either c.args.self.now c.args.text.now c.in-Some.cut.0 c.in-Some.cut.1 c.in-Some.ensures c.mark.ensures.plain
    (rw c.in-NotCanonical.is at c.in-Err.ensures) (Err NotCanonical) (c.has_unexpected.ensures c.if-has_unexpected.true)
