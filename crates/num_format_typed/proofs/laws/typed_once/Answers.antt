use Rattle.num_format_decimal.specs.Marks.{MarksDecimals}
use Rattle.num_format_decimal.specs.Parsing.{DecimalResult}
use Rattle.num_format_typed.specs.Typed.{IsTypable}
use Rattle.num_format_typed.proofs.LawLemmas.{one-number, strict-decimal}
use Rattle.num_format_typed.proofs.laws.typed_once.Goals as goal

pub returns-clause-decimal : goal.returns-clause-decimal
returns-clause-decimal g c = λ f. one-number (λ d. d) DecimalResult (λ f. IsTypable f × MarksDecimals f) f (strict-decimal f)
