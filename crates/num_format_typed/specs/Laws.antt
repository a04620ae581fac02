-- Laws of texts as people type them.
use Rattle.std.specs.Prelude.{◌≡◌, ℕ, ℤ, List, Result, Ok}
use Rattle.num_format_text.specs.Format.{FormatData}
use Rattle.num_format_int.specs.Kind.{Kind}
use Rattle.num_format_parsing.specs.Strict.{ParsesStrictly}
use Rattle.num_format_parsing.specs.declared.error.StrictError.{StrictError}
use Rattle.num_format_decimal.specs.FixedPoint.{FixedPoint}
use Rattle.num_format_decimal.specs.Parsing.{ParsesAtScale, ParsesDecimal}
use Rattle.num_format_decimal.specs.declared.parsing.ParseAtScaleError.{ParseAtScaleError}
use Rattle.num_format_typed.specs.Typed.{HasSymbols, IsTypable, ParsesTyped, TypedAtScaleResult, TypedDecimalResult}
use Rattle.num_format_typed.specs.declared.error.TypedError.{TypedError}

-- under a format that is typable, and has such symbols as each format has, a text that strict parsing accepts is typed for the same number
abbrev pub PrintedLaw : {X : Type 0} → Kind → (X → ℤ) → Type 0
PrintedLaw {X} k value = (f : FormatData) (t : List ℕ) (x : X) (result : Result X (TypedError StrictError)) →
    HasSymbols f → IsTypable f → ParsesStrictly k value f t (Ok x) → ParsesTyped k value f t result
    → (y : X) × (result ≡ Ok y) × (value y ≡ value x)

-- and for the same decimal, at a scale too
abbrev pub PrintedDecimalLaw : Type 0
PrintedDecimalLaw = (f : FormatData) (t : List ℕ) (d : FixedPoint) (result : Result FixedPoint (TypedError StrictError)) →
    HasSymbols f → IsTypable f → ParsesDecimal f t d → TypedDecimalResult f t result → result ≡ Ok d

abbrev pub PrintedAtScaleLaw : Type 0
PrintedAtScaleLaw = (f : FormatData) (t : List ℕ) (scale : ℕ) (d : FixedPoint) (result : Result FixedPoint (TypedError ParseAtScaleError)) →
    HasSymbols f → IsTypable f → ParsesAtScale f t scale d → TypedAtScaleResult f t scale result → result ≡ Ok d

-- a text is typed for one number at most, and for one decimal
abbrev pub OnceLaw : {X : Type 0} → Kind → (X → ℤ) → Type 0
OnceLaw {X} k value = (f : FormatData) (t : List ℕ) (x y : X) → ParsesTyped k value f t (Ok x) → ParsesTyped k value f t (Ok y)
    → value x ≡ value y

abbrev pub OnceDecimalLaw : Type 0
OnceDecimalLaw = (f : FormatData) (t : List ℕ) (x y : FixedPoint) → TypedDecimalResult f t (Ok x) → TypedDecimalResult f t (Ok y) → x ≡ y
