use Rattle.std.proofs.Common.{◌∙◌, sym}
use Rattle.num_format_rewriting.proofs.DigitLemmas.{past-digit}
use Rattle.num_format_rewriting.proofs.split_digit.Goals as goal

pub range_from-requires : goal.range_from-requires
range_from-requires c = λ some.
    past-digit c.args.text.now c.in_ok-first.field-0-1.now c.in_ok-first.first.now c.utf8.text
    (sym c.as_bytes.ensures.value ∙ c.in_ok-first.ensures.cases.0)
    (sym c.is_ascii_digit.ensures.value ∙ c.if-not-is_ascii_digit.false)
