-- The decimal for which a text is canonical, as a value.
use Rattle.std.specs.Prelude.{ℕ, ◌+◌, zero, suc, nat_le, Bool, not, ◌&&◌, ◌||◌, if◌then◌else◌, List, [], length, Option, None, Some}
use Rattle.std.specs.List.{list_any}
use Rattle.std.specs.Str.{bytes_eq, chars}
use Rattle.num_format.specs.Format.{FormatData}
use Rattle.num_format.specs.Grouped.{printed_separator}
use Rattle.num_format.specs.Readable.{fits_i128}
use Rattle.num_format.specs.Reading.{denoted, text_digits, is_other_numeral}
use Rattle.num_format.specs.Strict.{ungrouped}
use Rattle.num_format_decimal.specs.FixedPoint.{FixedPoint, fixed_point}
use Rattle.num_format_decimal.specs.Text.{decimal_text}
use Rattle.num_format_decimal.specs.declared.buffer.TheConstants.{MAX_DECIMAL_LEN}
use Rattle.num_format_decimal.specs.declared.decimal.TheConstants.{MAX_SCALE}
use Rattle.num_format_typed.specs.Typed.{begins_with, core_of, has_shared, is_own, separator_of, typed_text}
use Rattle.num_format_typed.specs.declared.classes.Class.TheVariants.{End, Plus}

-- whether no character of a text is numeric
abbrev pub has_no_numeral : List ℕ → Bool
has_no_numeral text = bytes_eq (text_digits text) [] && not (list_any is_other_numeral (chars text))

-- whether this is so, and the text is not empty
abbrev pub is_sign : List ℕ → Bool
is_sign text = not (bytes_eq text []) && has_no_numeral text

-- whether decimals can be told under the format: the minus sign and the decimal mark are not empty, no character of them or of a
-- separator that is printed is numeric, and that is not the mark
unfoldable pub marks_decimals : FormatData → Bool
marks_decimals format =
    let separator = printed_separator format.grouping format.separator in
    is_sign format.minus_sign && (has_no_numeral separator && (is_sign format.decimal && not (bytes_eq format.decimal separator)))

-- the decimal for which the text is canonical, grouped or not, with the most decimals below a bound: its units are the number that the
-- digits write
unfoldable pub canonical_below : FormatData → List ℕ → (bound : ℕ) → Option FixedPoint
canonical_below format text zero = None
canonical_below format text (suc scale) =
    let decimal = fixed_point (denoted format text) scale in
    if bytes_eq text (decimal_text format decimal) || bytes_eq text (decimal_text (ungrouped format) decimal) then Some decimal else
    canonical_below format text scale

-- the same of any scale that there is
abbrev pub canonical_value : FormatData → List ℕ → Option FixedPoint
canonical_value format text = canonical_below format text (MAX_SCALE + 1)

-- the decimal for which the text is canonical, if decimals can be told under the format, and the digits are those of an i128
unfoldable pub decimal_read : FormatData → List ℕ → Option FixedPoint
decimal_read format text = if marks_decimals format && fits_i128 (denoted format text) then canonical_value format text else None

-- whether decimals can be told where people type them: also, separator and mark have at most one character of each class, and the minus
-- sign begins with none that counts for nothing, and has none that could be typed for one of theirs
unfoldable pub types_decimals : FormatData → Bool
types_decimals format =
    let own = is_own (separator_of format) format.decimal in
    marks_decimals format && ((own (separator_of format) && own format.decimal)
    && (not (bytes_eq (core_of format) []) && (not (begins_with End (core_of format))
    && (not (begins_with Plus (core_of format)) && not (has_shared (separator_of format) format.decimal (core_of format))))))

-- the decimal that a person means by the text, if decimals can be told so: that of the text with the format's own characters, if that is no
-- longer than the text of any number
unfoldable pub typed_read : FormatData → List ℕ → Option FixedPoint
typed_read format text =
    if types_decimals format && nat_le (length (typed_text format text)) MAX_DECIMAL_LEN
    then decimal_read format (typed_text format text)
    else None
