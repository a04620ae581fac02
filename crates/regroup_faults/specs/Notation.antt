-- How numbers are written.
use Rattle.std.specs.Prelude.{ℕ, ◌==◌, ◌||◌, nat_lt, is_some, if◌then◌else◌, List, length, Option, None, Some}
use Rattle.std.specs.Option.{option_and_then}
use Rattle.std.specs.Str.{chars}
use Rattle.num_format.specs.Format.{FormatData}
use Rattle.num_format_decimal.specs.FixedPoint.{FixedPoint}
use Rattle.num_format_decimal.specs.Text.{decimal_text}
use Rattle.num_format_decimal.specs.declared.buffer.TheConstants.{MAX_DECIMAL_LEN}
use Rattle.num_format_digits.specs.Digits.{ascii_of, in_digits, other_from}

-- a format, and the zero of a digit set
pub record NotationData : Type 0 where
  pub format : FormatData
  pub digits : ℕ

-- a format with the digits 0 to 9
abbrev pub latin : FormatData → NotationData
latin format = record { format = format; digits = 48 }

-- the text of a decimal
abbrev pub number_text : NotationData → FixedPoint → List ℕ
number_text to decimal = in_digits to.digits (decimal_text to.format decimal)

-- a text with 0 to 9 for the digits of a set: one that has no other numeral, and then no more bytes than the text of any number
abbrev pub ascii_in : ℕ → List ℕ → Option (List ℕ)
ascii_in z text =
    if z == 48 then Some text else
    if is_some (other_from z 0 (chars text)) || nat_lt MAX_DECIMAL_LEN (length (ascii_of z text)) then None else
    Some (ascii_of z text)

-- the decimal that is read of a text in the digits of the set, by how it is read of one with 0 to 9
abbrev pub decimal_in : (FormatData → List ℕ → Option FixedPoint) → NotationData → List ℕ → Option FixedPoint
decimal_in read from text = option_and_then (read from.format) (ascii_in from.digits text)
