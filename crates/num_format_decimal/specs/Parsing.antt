-- What strict parsing of decimals returns, and when it refuses a text for which cause.
use Rattle.std.specs.Prelude.{◌≡◌, ◌↔◌, ℕ, ◌<◌, ◌≤◌, List, [], length, drop, if◌then◌else◌, Result, Ok, Err, IsUtf8}
use Rattle.num_format_text.specs.Format.{FormatData}
use Rattle.num_format_parsing.specs.Reading.{text_digits}
use Rattle.num_format_parsing.specs.Strict.{begins, strict_message_of, unexpected, ungrouped, unread}
use Rattle.num_format_decimal.specs.declared.decimal.TheConstants.{MAX_SCALE}
use Rattle.num_format_decimal.specs.declared.error.DecimalError.{DecimalError}
use Rattle.num_format_decimal.specs.declared.parsing.ParseAtScaleError.{ParseAtScaleError}
use Rattle.num_format_decimal.specs.declared.parsing.ParseAtScaleError.TheVariants.{Parse, Rescale}
use Rattle.num_format_parsing.specs.declared.error.StrictError.{StrictError}
use Rattle.num_format_parsing.specs.declared.error.StrictError.TheVariants.{AmbiguousFormat, NotUtf8, Unexpected, NoDigit}
use Rattle.num_format_parsing.specs.declared.error.StrictError.TheVariants.{TooManyDecimals, Misspelled, OutOfRange}
use Rattle.num_format_decimal.specs.declared.rounding.Rounding.TheVariants.{Exact}
use Rattle.num_format_decimal.specs.FixedPoint.{FixedPoint}
use Rattle.num_format_decimal.specs.Marks.{MarksDecimals}
use Rattle.num_format_decimal.specs.Message.{message_of}
use Rattle.num_format_decimal.specs.Rounded.{CanRescale, CannotRescale, rescaled}
use Rattle.num_format_decimal.specs.Text.{decimal_text}
use Rattle.num_format_decimal.specs.Values.{HasUnits}

-- a text is canonical for d: it is the text of d, or the text of d without grouping
pub data IsCanonicalDecimal (f : FormatData) (t : List ℕ) (d : FixedPoint) : Type 0 where
  with_separators : t ≡ decimal_text f d → IsCanonicalDecimal f t d
  without_separators : t ≡ decimal_text (ungrouped f) d → IsCanonicalDecimal f t d

-- parsing returns d: the format is not ambiguous, and the text is canonical for d, which is a decimal that there is
pub record ParsesDecimal (f : FormatData) (t : List ℕ) (d : FixedPoint) : Type 0 where
  pub unambiguous : MarksDecimals f
  pub canonical : IsCanonicalDecimal f t d
  pub bound : d.scale ≤ MAX_SCALE
  pub fits : HasUnits d

-- what follows the decimal mark, if one stands after the minus sign, digits and whole separators of a text
abbrev pub after_mark : FormatData → List ℕ → List ℕ
after_mark f t = if begins f.decimal (unexpected f t) then drop (length f.decimal) (unexpected f t) else []

-- what is left of a text after its minus sign, digits and whole separators, and then one decimal mark and digits
abbrev pub unexpected_in_decimal : FormatData → List ℕ → List ℕ
unexpected_in_decimal f t =
    if begins f.decimal (unexpected f t) then unread [] 0 (after_mark f t) else unexpected f t

-- a text is UTF-8, and is canonical for no decimal of a scale that there is
pub record IsNotCanonical (f : FormatData) (t : List ℕ) : Type 0 where
  pub utf8 : IsUtf8 t
  pub none : (d : FixedPoint) → d.scale ≤ MAX_SCALE → ¬ (IsCanonicalDecimal f t d)

-- a text that is canonical for no decimal has its first unexpected byte at that place
pub record DecimalStopsAt (f : FormatData) (t : List ℕ) (at : ℕ) : Type 0 where
  pub is_not_canonical : IsNotCanonical f t
  pub inside : at < length t
  pub rest : unexpected_in_decimal f t ≡ drop at t

-- a text that is canonical for no decimal has no unexpected byte
pub record IsExpectedDecimal (f : FormatData) (t : List ℕ) : Type 0 where
  pub is_not_canonical : IsNotCanonical f t
  pub rest : unexpected_in_decimal f t ≡ []

-- such a text has no unexpected byte, but a fault
pub record IsExpectedBut (f : FormatData) (t : List ℕ) (Fault : Type 0) : Type 0 where
  pub expected : IsExpectedDecimal f t
  pub fault : Fault

-- a text is canonical for a decimal whose units are no `i128`
pub record IsDecimalOutOfRange (f : FormatData) (t : List ℕ) : Type 0 where
  pub decimal : FixedPoint
  pub canonical : IsCanonicalDecimal f t decimal
  pub bound : decimal.scale ≤ MAX_SCALE
  pub wrong : ¬ (HasUnits decimal)

-- when a text is refused for a cause
abbrev pub IsDecimalCause : FormatData → List ℕ → StrictError → Type 0
IsDecimalCause f t AmbiguousFormat = ¬ (MarksDecimals f)
IsDecimalCause f t NotUtf8 = MarksDecimals f × ¬ (IsUtf8 t)
IsDecimalCause f t (Unexpected at) = MarksDecimals f × DecimalStopsAt f t at
IsDecimalCause f t NoDigit = MarksDecimals f × IsExpectedBut f t (text_digits t ≡ [])
IsDecimalCause f t TooManyDecimals = MarksDecimals f × IsExpectedBut f t (¬ (text_digits t ≡ []) × (MAX_SCALE < length (after_mark f t)))
IsDecimalCause f t Misspelled = MarksDecimals f × IsExpectedBut f t (¬ (text_digits t ≡ []) × (length (after_mark f t) ≤ MAX_SCALE))
IsDecimalCause f t OutOfRange = MarksDecimals f × IsDecimalOutOfRange f t

-- what parsing returns of a text: the decimal for which it is canonical, or an error exactly if it is the cause
pub record DecimalResult (f : FormatData) (t : List ℕ) (result : Result FixedPoint StrictError) : Type 0 where
  pub decimal : (d : FixedPoint) → (result ≡ Ok d) ↔ ParsesDecimal f t d
  pub refused : (e : StrictError) → (result ≡ Err e) ↔ IsDecimalCause f t e

-- the text is canonical for a decimal, and d is the same number at the scale
pub record ParsesAtScale (f : FormatData) (t : List ℕ) (scale : ℕ) (d : FixedPoint) : Type 0 where
  pub canonical : FixedPoint
  pub parses : ParsesDecimal f t canonical
  pub can : CanRescale Exact canonical scale
  pub same : d ≡ rescaled Exact canonical scale

-- the text is canonical for a decimal that has no such scale
pub record CannotBeAtScale (f : FormatData) (t : List ℕ) (scale : ℕ) (e : DecimalError) : Type 0 where
  pub canonical : FixedPoint
  pub parses : ParsesDecimal f t canonical
  pub cannot : CannotRescale Exact canonical scale e

-- when a text is refused as a decimal of a scale
abbrev pub IsAtScaleCause : FormatData → List ℕ → (scale : ℕ) → ParseAtScaleError → Type 0
IsAtScaleCause f t scale (Parse e) = IsDecimalCause f t e
IsAtScaleCause f t scale (Rescale e) = CannotBeAtScale f t scale e

-- what parsing at a scale returns of a text
pub record AtScaleResult (f : FormatData) (t : List ℕ) (scale : ℕ) (result : Result FixedPoint ParseAtScaleError) : Type 0 where
  pub decimal : (d : FixedPoint) → (result ≡ Ok d) ↔ ParsesAtScale f t scale d
  pub refused : (e : ParseAtScaleError) → (result ≡ Err e) ↔ IsAtScaleCause f t scale e

-- the message of an error at a scale: that of its cause
abbrev pub at_scale_message_of : ParseAtScaleError → List ℕ
at_scale_message_of (Parse e) = strict_message_of e
at_scale_message_of (Rescale e) = message_of e
