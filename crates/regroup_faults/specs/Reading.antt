-- How the text of a number is read.
use Rattle.std.specs.Prelude.{ℕ, ◌%◌, nat_lt, ◌==◌, Bool, false, not, if◌then◌else◌, List, Option, None, Some, Result, Ok, Err}
use Rattle.std.specs.Option.{option_and_then, option_map}
use Rattle.std.specs.Result.{result_ok}
use Rattle.num_format.specs.Format.{FormatData}
use Rattle.num_format.specs.Readable.{fits_i128, number_read}
use Rattle.num_format_decimal.specs.FixedPoint.{FixedPoint, fixed_point}
use Rattle.num_format_decimal.specs.Rounded.{dividend, divisor, rescaled}
use Rattle.num_format_decimal.specs.declared.decimal.TheConstants.{MAX_SCALE}
use Rattle.num_format_decimal.specs.declared.error.DecimalError.{DecimalError}
use Rattle.num_format_decimal.specs.declared.error.DecimalError.TheVariants.{DigitsLost, OutOfRange, ScaleTooLarge}
use Rattle.num_format_decimal.specs.declared.rounding.Rounding.{Rounding}
use Rattle.num_format_decimal.specs.declared.rounding.Rounding.TheVariants.{Exact}
use Rattle.regroup_faults.specs.Decimals.{decimal_read, typed_read}
use Rattle.regroup_faults.specs.declared.Parsing.{Parsing}
use Rattle.regroup_faults.specs.declared.Parsing.TheVariants.{Lenient, Strict, Typed}
use Rattle.regroup_faults.specs.declared.Reading.{Reading}
use Rattle.regroup_faults.specs.declared.scale.Scale.{Scale}

-- the whole number that is parsed leniently of a text
abbrev pub whole_read : FormatData → List ℕ → Option FixedPoint
whole_read format text = option_map (λ n. fixed_point n 0) (result_ok (number_read format text))

-- the decimal that is parsed of a text with 0 to 9
abbrev pub parsed_by : Parsing → FormatData → List ℕ → Option FixedPoint
parsed_by Lenient = whole_read
parsed_by Strict = decimal_read
parsed_by Typed = typed_read

-- whether digits other than zero would be lost at a scale, and are not to be rounded
abbrev pub loses_digits : Rounding → FixedPoint → (scale : ℕ) → Bool
loses_digits Exact d scale = not (dividend d scale % divisor d scale == 0)
loses_digits mode d scale = false

-- the decimal at a scale, or the first cause why there is none: there is no such scale, or digits would be lost, or it has too many units
unfoldable pub scaled : Scale → FixedPoint → Result FixedPoint DecimalError
scaled scale d =
    if nat_lt MAX_SCALE scale.decimals then Err ScaleTooLarge else
    if loses_digits scale.rounding d scale.decimals then Err DigitsLost else
    if fits_i128 (rescaled scale.rounding d scale.decimals).units then Ok (rescaled scale.rounding d scale.decimals) else Err OutOfRange

-- the decimal at the scale that is asked for, if there is one
abbrev pub at_scale : Option Scale → FixedPoint → Option FixedPoint
at_scale None d = Some d
at_scale (Some scale) d = result_ok (scaled scale d)

-- the decimal that is read of a text with 0 to 9
abbrev pub read_by : Reading → FormatData → List ℕ → Option FixedPoint
read_by reading format text = option_and_then (at_scale reading.scale) (parsed_by reading.parsing format text)
