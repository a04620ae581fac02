-- What the steps of parsing a decimal find in a text.
use Rattle.std.specs.Prelude.{◌≡◌, ℕ, suc, ◌+◌, ◌/◌, ◌^◌, ◌<◌, ◌≤◌, ◌⊎◌, Bool, true, List, [], ◌∷◌, ◌++◌, drop, take, length, if◌then◌else◌}
use Rattle.std.specs.Prelude.{FitsSigned, Result, Ok, Err}
use Rattle.std.specs.Char.{is_ascii_digit}
use Rattle.std.specs.Int.{w128}
use Rattle.std.specs.List.{list_all}
use Rattle.num_format_text.specs.declared.grouping.Grouping.{Grouping}
use Rattle.num_format_text.specs.declared.grouping.Grouping.TheVariants.{Posix}
use Rattle.num_format_text.specs.Format.{FormatData}
use Rattle.num_format_int.specs.Digits.{digits}
use Rattle.num_format_int.specs.Grouped.{grouped}
use Rattle.num_format_int.specs.Kind.{signed_number}
use Rattle.num_format_decimal.specs.declared.decimal.TheConstants.{MAX_SCALE}
use Rattle.num_format_decimal.specs.declared.parser.Fault.{Fault}
use Rattle.num_format_decimal.specs.declared.parser.Fault.TheVariants.{TooLarge, NotCanonical}
use Rattle.num_format_decimal.specs.FixedPoint.{FixedPoint}
use Rattle.num_format_decimal.specs.Parsing.{IsDecimalOutOfRange, ParsesDecimal, IsCanonicalDecimal}
use Rattle.num_format_decimal.specs.Text.{decimals_of}

-- how many digits stand at the end of a text
abbrev pub tail_digits : List ℕ → ℕ
tail_digits [] = 0
tail_digits (b ∷ t) = if list_all is_ascii_digit (b ∷ t) then suc (length t) else tail_digits t

-- the mark stands between two places before the digits at the end of a text, which are no more than the largest scale
pub record IsCut (mark t : List ℕ) (place end : ℕ) : Type 0 where
  pub text : t ≡ take place t ++ (mark ++ drop end t)
  pub some : end < length t
  pub few : length t ≤ end + MAX_SCALE
  pub digits : list_all is_ascii_digit (drop end t) ≡ true

-- a text is the minus sign, if it is negative, and the digits of n, grouped or not
pub record IsAmount (f : FormatData) (t : List ℕ) (negative : Bool) (n : ℕ) : Type 0 where
  pub grouping : Grouping
  pub either : (grouping ≡ f.grouping) ⊎ (grouping ≡ Posix)
  pub text : t ≡ (if negative then f.minus_sign else []) ++ grouped grouping f.separator (digits n)

-- a text is the minus sign, if it is negative, and the text of n at a scale, grouped or not
pub record IsSigned (f : FormatData) (t : List ℕ) (negative : Bool) (n scale : ℕ) : Type 0 where
  pub whole : List ℕ
  pub amount : IsAmount f whole negative (n / 10 ^ scale)
  pub text : t ≡ whole ++ decimals_of f n scale

-- what was read of a text as an amount: it, or that it is one that is no `i128`, or none
abbrev pub HasAmount : FormatData → List ℕ → Result (Bool × ℕ) Fault → Type 0
HasAmount f t (Ok amount) = IsAmount f t amount.0 amount.1
HasAmount f t (Err TooLarge) = (negative : Bool) × (n : ℕ) × IsAmount f t negative n × ¬ (FitsSigned w128 (signed_number negative n))
HasAmount f t (Err NotCanonical) = (negative : Bool) (n : ℕ) → ¬ (IsAmount f t negative n)

-- what was read of a text as a decimal of such scales
abbrev pub HasReading : FormatData → List ℕ → (ℕ → Type 0) → Result FixedPoint Fault → Type 0
HasReading f t among (Ok d) = ParsesDecimal f t d
HasReading f t among (Err TooLarge) = IsDecimalOutOfRange f t
HasReading f t among (Err NotCanonical) = (d : FixedPoint) → among d.scale → ¬ (IsCanonicalDecimal f t d)
