-- Whether a text parses as an `i128`, as a test that computes, and the number that it denotes.
use Rattle.std.specs.Prelude.{ℕ, ◌+◌, ◌^◌, nat_le, nat_lt, ℤ, pos, negsuc, Bool, not, ◌&&◌, if◌then◌else◌, List, length, Result, Ok, Err}
use Rattle.std.specs.List.{list_any}
use Rattle.std.specs.Str.{chars}
use Rattle.num_format_text.specs.Cut.{cut_text}
use Rattle.num_format_text.specs.Format.{FormatData}
use Rattle.num_format_parsing.specs.Reading.{denoted, text_digits, is_negative_text, is_other_numeral}
use Rattle.num_format_text.specs.Refusal.{Refusal, ParseNumber}

-- whether an i128 can be the number; `negsuc n` is -n - 1
abbrev pub fits_i128 : ℤ → Bool
fits_i128 (pos n) = nat_lt n (2 ^ 127)
fits_i128 (negsuc n) = nat_lt n (2 ^ 127)

-- whether the text parses as an i128 under the format: it has a digit 0 to 9 and no other numeral, at most 40 digits, a minus sign
-- counted as one, and denotes a number that fits
abbrev pub is_readable : FormatData → List ℕ → Bool
is_readable format text =
    nat_lt 0 (length (text_digits text)) && (not (list_any is_other_numeral (chars text))
    && (nat_le (length (text_digits text) + (if is_negative_text format text then 1 else 0)) 40 && fits_i128 (denoted format text)))

-- the number that the text denotes under the format, or the error of a text that does not parse
abbrev pub number_read : FormatData → List ℕ → Result ℤ Refusal
number_read format text = if is_readable format text then Ok (denoted format text) else Err (ParseNumber (cut_text text))
