use Rattle.std.proofs.Common.{subst}
use Rattle.num_format_typed.specs.Trimming.{EndsInDigit}
use Rattle.num_format_typed.proofs.DigitLemmas.{end-digit}
use Rattle.num_format_typed.proofs.trimming.without_end.Goals as goal

pub returns-then-ends_in_digit-clause-value : goal.returns-then-ends_in_digit-clause-value
returns-then-ends_in_digit-clause-value c =
    end-digit c.args.class c.args.text.now c.utf8.text
    (subst EndsInDigit c.as_bytes.ensures.value (c.ends_in_digit.ensures c.if-ends_in_digit.true))
