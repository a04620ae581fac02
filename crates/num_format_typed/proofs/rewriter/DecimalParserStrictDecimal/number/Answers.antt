use Rattle.std.proofs.Common.{ℕ, List, Option, Some, None, Ok, MatchOption, refl}
use Rattle.std.specs.Prelude.{IfSome}
use Rattle.num_format_text.specs.Format.{FormatData}
use Rattle.num_format_decimal.specs.FixedPoint.{FixedPoint}
use Rattle.num_format_decimal.specs.Parsing.{DecimalResult}
use Rattle.num_format_typed.specs.Typed.{HasSymbols, IsPrinted, IsTypable}
use Rattle.num_format_typed.proofs.CanonicalLemmas.{decimal-printed}
use Rattle.num_format_typed.proofs.rewriter.DecimalParserStrictDecimal.number.Goals as goal

given : (R : Type 0) (f : FormatData) (t : List ℕ) → IsTypable f → HasSymbols f → (result : Option FixedPoint)
    → MatchOption result R (λ d. DecimalResult f t (Ok d)) → IfSome result (λ d. IsPrinted f t × DecimalResult f t (Ok d))
given R f t typable symbols None parsed = tt
given R f t typable symbols (Some d) parsed = (decimal-printed f t d typable symbols ((parsed.decimal d).0 refl), parsed)

pub returns : goal.returns
returns g c = given _ c.args.self.now c.args.bytes.now c.requires.typable c.requires.symbols c.decimal.result c.decimal.ensures
