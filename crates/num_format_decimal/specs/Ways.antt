-- Ways of parsing a text, and errors with a place in a text.
use Rattle.std.specs.Prelude.{ℕ, ℤ, List, Result}
use Rattle.num_format_text.specs.Format.{FormatData}
use Rattle.num_format_int.specs.Kind.{Kind}
use Rattle.num_format_parsing.specs.Strict.{IsUnambiguous, ParsesStrictly}
use Rattle.num_format_parsing.specs.declared.error.StrictError.{StrictError}
use Rattle.num_format_parsing.specs.declared.error.StrictError.TheVariants as strict
use Rattle.num_format_decimal.specs.FixedPoint.{FixedPoint}
use Rattle.num_format_decimal.specs.Marks.{MarksDecimals}
use Rattle.num_format_decimal.specs.Parsing.{AtScaleResult, DecimalResult}
use Rattle.num_format_decimal.specs.declared.parsing.ParseAtScaleError.{ParseAtScaleError}
use Rattle.num_format_decimal.specs.declared.parsing.ParseAtScaleError.TheVariants.{Parse, Rescale}

-- a way of parsing: the formats that it takes, the error under any other, and what it returns of a text under a format
pub record Way (X E : Type 0) : Type 1 where
  pub Takes : FormatData → Type 0
  pub ambiguous : E
  pub Returns : FormatData → List ℕ → Result X E → Type 0

-- strict parsing: of a whole number of a kind, of a decimal, and of a decimal of a scale
abbrev pub numbers : {X : Type 0} → Kind → (X → ℤ) → Way X StrictError
numbers k value = record { Takes = IsUnambiguous; ambiguous = strict.AmbiguousFormat; Returns = ParsesStrictly k value }

abbrev pub decimals : Way FixedPoint StrictError
decimals = record { Takes = MarksDecimals; ambiguous = strict.AmbiguousFormat; Returns = DecimalResult }

abbrev pub at_scale : (scale : ℕ) → Way FixedPoint ParseAtScaleError
at_scale scale = record {
  Takes = MarksDecimals;
  ambiguous = Parse strict.AmbiguousFormat;
  Returns = λ f t. AtScaleResult f t scale;
}

-- an error of strict parsing with another place, and one of decimals of a scale
abbrev pub placed : (ℕ → ℕ) → StrictError → StrictError
placed place (strict.Unexpected at) = strict.Unexpected (place at)
placed place e = e

abbrev pub placed_at_scale : (ℕ → ℕ) → ParseAtScaleError → ParseAtScaleError
placed_at_scale place (Parse e) = Parse (placed place e)
placed_at_scale place (Rescale e) = Rescale e
