use Rattle.std.proofs.Common.{◌∙◌, sym}
use Rattle.num_format_decimal.proofs.ReadLemmas.{one_more_digit}
use Rattle.num_format_decimal.proofs.reading.read_digits.Goals as goal

pub loop-byte-preserved : goal.loop-byte-preserved
loop-byte-preserved c =
    let l = c.loop-byte in
    one_more_digit c.args.text.now l.byte-index l.n c.loop-byte-test.true (sym c.is_ascii_digit.ensures.value
    ∙ c.if-not-is_ascii_digit.false) l.invariant
