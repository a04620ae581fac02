-- The messages that name faults.
use Rattle.std.specs.Prelude.{ℕ, ◌+◌, ◌-◌, ◌/◌, ◌%◌, nat_le, nat_lt, ◌==◌, Bool, ◌&&◌, not, is_some, if◌then◌else◌}
use Rattle.std.specs.Prelude.{List, [], ◌∷◌, ◌++◌, length, codes, encode_utf8, Option, None, Some, Result, Ok, Err}
use Rattle.num_format_digits.specs.Digits as set
use Rattle.num_format_digits.specs.Digits.{ascii_of, first_set, other_from}
use Rattle.num_format_digits.specs.Parsing as digits
use Rattle.std.specs.Fmt.{decimal}
use Rattle.std.specs.Char.{is_ascii_digit}
use Rattle.std.specs.List.{flat_map}
use Rattle.std.specs.Str.{bytes_eq, chars, is_utf8}
use Rattle.num_format.specs.Format.{FormatData}
use Rattle.num_format.specs.Reading.{text_digits}
use Rattle.num_format.specs.Refusal.{Refusal, Capacity, Other, ParseLocale, ParseNumber}
use Rattle.num_format_decimal.specs.FixedPoint.{FixedPoint}
use Rattle.num_format_decimal.specs.Parsing.{after_mark, unexpected_in_decimal}
use Rattle.num_format_decimal.specs.Text.{decimal_text}
use Rattle.num_format_decimal.specs.declared.buffer.TheConstants.{MAX_DECIMAL_LEN}
use Rattle.num_format_decimal.specs.declared.decimal.TheConstants.{MAX_SCALE}
use Rattle.num_format_decimal.specs.declared.error.DecimalError.{DecimalError}
use Rattle.num_format_decimal.specs.declared.error.DecimalError.TheVariants.{DigitsLost, OutOfRange, ScaleTooLarge}
use Rattle.num_format_parsing.specs.declared.error.StrictError.{StrictError}
use Rattle.num_format_parsing.specs.declared.error.StrictError.TheVariants as strict
use Rattle.num_format_typed.specs.Typed.{place_in, typed_text}
use Rattle.regroup_faults.specs.Notation.{NotationData}
use Rattle.regroup_faults.specs.Quoting.{hex_digit, quoted, shown}
use Rattle.regroup_faults.specs.Decimals.{marks_decimals, canonical_value, typed_read, types_decimals}
use Rattle.regroup_faults.specs.Fault.{Fault, line_of}
use Rattle.regroup_faults.specs.Fault.Fault.{TooMany, TooLong, FewFields, Read, NotText, FieldNotText, Line, Field, Unclosed, Write, Report}
use Rattle.regroup_faults.specs.Fault.Fault.{Reject, Flush}
use Rattle.regroup_faults.specs.declared.fault.FieldCount.{FieldCount}
use Rattle.regroup_faults.specs.Reading.{parsed_by, scaled}
use Rattle.regroup_faults.specs.declared.Parsing.{Parsing}
use Rattle.regroup_faults.specs.declared.Parsing.TheVariants.{Lenient, Strict, Typed}
use Rattle.regroup_faults.specs.declared.Reading.{Reading}
use Rattle.regroup_faults.specs.declared.scale.Scale.{Scale}
use Rattle.regroup_faults.specs.declared.message.Why.{Why}
use Rattle.regroup_faults.specs.declared.message.Why.TheVariants as why

-- the text that an error keeps, if it keeps one
abbrev pub kept_in : Refusal → List ℕ
kept_in (ParseNumber text) = text
kept_in (ParseLocale text) = text
kept_in (Other text) = text
kept_in (Capacity len cap) = []

-- what an error says
abbrev pub why_in : StrictError → Why
why_in (strict.Unexpected at) = why.Unexpected at
why_in strict.Misspelled = why.Misspelled
why_in _ = why.Unknown

-- what is known of a text that is canonical for no decimal, by what is left of it from the first byte on that strict parsing does not
-- expect
abbrev pub why_left : FormatData → (text rest : List ℕ) → Why
why_left from text [] =
    if not (bytes_eq (text_digits text) []) && nat_le (length (after_mark from text)) MAX_SCALE then why.Misspelled else why.Unknown
why_left from text (b ∷ rest) = why.Unexpected (length text - length (b ∷ rest))

-- nothing where there is a decimal
abbrev pub unless_canonical : Option FixedPoint → Why → Why
unless_canonical None known = known
unless_canonical (Some decimal) known = why.Unknown

-- why strict parsing refuses a text, if it does, and decimals can be told under the format
unfoldable pub why_refused : FormatData → List ℕ → Why
why_refused from text =
    if marks_decimals from && is_utf8 text
    then unless_canonical (canonical_value from text) (why_left from text (unexpected_in_decimal from text)) else why.Unknown

-- the first characters in which two texts differ, after how many bytes, of which so many were before these texts
abbrev pub change_after : (before : ℕ) → (text other : List ℕ) → Option (ℕ × ℕ × ℕ)
change_after before (c ∷ text) (d ∷ other) = if c == d then change_after (before + length (encode_utf8 c)) text other else Some (
  before,
  c,
  d,
)
change_after before text other = None

abbrev pub first_change : List ℕ → List ℕ → Option (ℕ × ℕ × ℕ)
first_change text other = change_after 0 (chars text) (chars other)

-- the character that stands for one of the format where this byte is unexpected, with that: a digit stands for none
abbrev pub why_changed : (before : ℕ) → Option (ℕ × ℕ × ℕ) → Why
why_changed before None = why.Unexpected before
why_changed before (Some change) = if is_ascii_digit change.1 then why.Unexpected before else why.Typed change.0 change.1 change.2

-- the same by the decimal that a person means by the text, if there is one
abbrev pub why_meant : FormatData → List ℕ → (before : ℕ) → Option FixedPoint → Why
why_meant from text before None = why.Unexpected before
why_meant from text before (Some decimal) = why_changed before (first_change text (decimal_text from decimal))

abbrev pub why_strict : FormatData → List ℕ → Why → Why
why_strict from text (why.Unexpected before) = why_meant from text before (typed_read from text)
why_strict from text known = known

-- the same with another place, and another character of the format
abbrev pub why_placed : (place image : ℕ → ℕ) → Why → Why
why_placed place image (why.Unexpected before) = why.Unexpected (place before)
why_placed place image (why.Typed before met wanted) = why.Typed (place before) met (image wanted)
why_placed place image known = known

-- why typed parsing refuses a text, if it does, and decimals can be told so under the format
unfoldable pub why_untyped : FormatData → List ℕ → Why
why_untyped from text =
    if not (types_decimals from) then why.Unknown else
    if nat_lt MAX_DECIMAL_LEN (length (typed_text from text)) then why.TooLong else
    why_placed (place_in from text) (λ c. c) (why_refused from (typed_text from text))

-- why a text with 0 to 9 does not parse
abbrev pub why_unparsed : Parsing → FormatData → List ℕ → Why
why_unparsed Strict from text = why_strict from text (why_refused from text)
why_unparsed Typed from text = why_untyped from text
why_unparsed Lenient from text = why.Unknown

-- why there is no decimal at a scale, by it or its error
abbrev pub why_scaled : Scale → Result FixedPoint DecimalError → Why
why_scaled scale (Ok d) = why.Unknown
why_scaled scale (Err error) = why.NotScaled scale.decimals error

-- why a text is not read, by the decimal that it is, if it is one, and the scale that is asked for
abbrev pub why_unread : Option Scale → Option FixedPoint → Why → Why
why_unread (Some scale) (Some d) unparsed = why_scaled scale (scaled scale d)
why_unread _ _ unparsed = unparsed

-- why a text with 0 to 9 is refused, by how it is read
abbrev pub why_read : Reading → FormatData → List ℕ → Why
why_read reading from text =
    why_unread reading.scale (parsed_by reading.parsing from text) (why_unparsed reading.parsing from text)

-- the character after so many bytes
abbrev pub char_after : (before : ℕ) → (characters : List ℕ) → ℕ
char_after before [] = 0
char_after before (c ∷ cs) = if before == 0 then c else char_after (before - length (encode_utf8 c)) cs

-- the same in a set: by its first other numeral, if it has one, or else by the text with 0 to 9, with the place in the text itself, and
-- the character of the format as it is shown in the set
abbrev pub why_other : Reading → NotationData → List ℕ → Option ℕ → Why
why_other reading from text (Some before) = why.OtherNumeral before (char_after before (chars text))
why_other reading from text None =
    if nat_lt MAX_DECIMAL_LEN (length (ascii_of from.digits text)) then why.TooLong else
    why_placed (digits.place_in from.digits text) (set.shown from.digits) (why_read reading from.format (ascii_of from.digits text))

abbrev pub why_in_digits : Reading → NotationData → List ℕ → Why
why_in_digits reading from text = why_other reading from text (other_from from.digits 0 (chars text))

-- nothing is known of a text of 253 bytes or more, which may have been cut, since an error keeps 256 bytes at most, and whole characters
abbrev pub why_not : Reading → NotationData → List ℕ → Why
why_not reading from text =
    if not (nat_lt (length text) 253) then why.Unknown else
    if from.digits == 48 then why_read reading from.format text else why_in_digits reading from text

-- the last four digits of a number of base 16, and the two before them if it has more
abbrev pub low_digits : ℕ → List ℕ
low_digits n = hex_digit (n / 4096 % 16) ∷ hex_digit (n / 256 % 16) ∷ hex_digit (n / 16 % 16) ∷ hex_digit (n % 16) ∷ []

abbrev pub high_digits : ℕ → List ℕ
high_digits n = if nat_lt n 65536 then [] else hex_digit (n / 1048576 % 16) ∷ hex_digit (n / 65536 % 16) ∷ []

-- a character, by its code point
abbrev pub code_point : ℕ → List ℕ
code_point n = codes "U+" ++ (high_digits n ++ low_digits n)

-- what is said where a character was typed for one of the format
abbrev pub met_text : (at met wanted : List ℕ) → List ℕ
met_text at met wanted =
    codes ": not a number at byte " ++ (at ++ (codes ": " ++ (met ++ (codes ", where FROM has " ++ (wanted ++ codes ": see --typed")))))

-- what is said of a numeral that is no digit of the set
abbrev pub other_text : (before met : ℕ) → List ℕ
other_text before met =
    codes ": not a number at byte " ++ (decimal (before + 1) ++ (codes ": " ++ (code_point met ++ codes " is no digit of FROM")))

-- what is said of a number that has no such scale
abbrev pub lost_text : DecimalError → List ℕ
lost_text ScaleTooLarge = codes ": more than 38 decimals"
lost_text DigitsLost = codes ": digits would be lost"
lost_text OutOfRange = codes ": out of range"

-- what is said of a text that is not a number: a place counts from 1
abbrev pub why_text : Why → List ℕ
why_text why.Unknown = codes ": not a number"
why_text (why.Unexpected before) = codes ": not a number at byte " ++ decimal (before + 1)
why_text why.Misspelled = codes ": not as it is printed"
why_text why.TooLong = codes ": longer than any number"
why_text (why.OtherNumeral before met) = other_text before met
why_text (why.Typed before met wanted) = met_text (decimal (before + 1)) (code_point met) (code_point wanted)
why_text (why.NotScaled decimals error) = lost_text error ++ (codes " with --decimals " ++ decimal decimals)

-- what is shown of a name: the first 256 bytes
abbrev pub shown_name : List ℕ → List ℕ
shown_name name = shown 256 name

-- what is said of a line with too few fields
abbrev pub few_text : FieldCount → List ℕ
few_text count =
    codes "too few fields: "
    ++ (decimal count.found ++ (codes " of " ++ (decimal count.wanted ++ (codes ", separated by " ++ quoted (count.delimiter ∷ [])))))

-- what is said of a text that is not a number
abbrev pub refused_text : Why → List ℕ → List ℕ
refused_text known text = quoted text ++ why_text known

-- what is said of the field of this number
abbrev pub field_cause : ℕ → List ℕ → List ℕ
field_cause field cause = codes "field " ++ (decimal field ++ (codes ": " ++ cause))

-- what is said of a fault
abbrev pub cause : Why → Fault → List ℕ
cause known TooMany = codes "more lines than are allowed"
cause known (TooLong number max_line_len) = codes "more than " ++ (decimal max_line_len ++ codes " bytes")
cause known (FewFields number count) = few_text count
cause known Read = codes "failed to read"
cause known (NotText number) = codes "not UTF-8"
cause known (FieldNotText number field) = field_cause field (codes "not UTF-8")
cause known (Line number refusal) = refused_text known (kept_in refusal)
cause known (Field number field refusal) = field_cause field (refused_text known (kept_in refusal))
cause known (Unclosed number) = codes "unclosed quote"
cause known Write = codes "failed to write"
cause known Report = codes "failed to write a message"
cause known Reject = codes "failed to write a rejected line"
cause known Flush = codes "failed to flush"

-- the text that is not a number, if that is the fault
abbrev pub refused_in : Fault → List ℕ
refused_in (Line number refusal) = kept_in refusal
refused_in (Field number field refusal) = kept_in refusal
refused_in fault = []

-- what is displayed of a fault, with the number of its line, which is in decimal
abbrev pub displayed : (line : Option ℕ) → List ℕ → List ℕ
displayed None cause = cause
displayed (Some number) cause = codes "line " ++ (decimal number ++ (codes ": " ++ cause))

abbrev pub message_of_fault : Fault → List ℕ
message_of_fault fault = displayed (line_of fault) (cause why.Unknown fault)

-- whether a text has bytes, and no decimal digit
abbrev pub is_word : List ℕ → Bool
is_word text = not (length text == 0) && not (is_some (first_set (chars text)))

-- the question whether a text in the line of this number is of a header, if it is a word in the first line
abbrev pub header_hint : (number : ℕ) → List ℕ → List ℕ
header_hint number text = if (number == 1) && is_word text then codes ": a header? see --header" else []

-- what may help with a line at fault, or nothing
abbrev pub hint : Fault → List ℕ
hint (NotText number) = codes ": see iconv(1)"
hint (FieldNotText number field) = codes ": see iconv(1)"
hint (Line number refusal) = header_hint number (kept_in refusal)
hint (Field number field refusal) = header_hint number (kept_in refusal)
hint fault = []

-- a message about the line of this number, if a line is at fault
abbrev pub line_message : (name : List ℕ) → (line : Option ℕ) → (cause hint : List ℕ) → List ℕ
line_message name None cause hint = []
line_message name (Some number) cause hint =
    codes "regroup-lines: " ++ (shown_name name ++ (codes ":" ++ (decimal number ++ (codes ": " ++ (cause ++ (hint ++ codes "\n"))))))

-- the message that names the fault of a line, in an input of this name that is read in the notation; other faults have none
abbrev pub fault_message : (name : List ℕ) → Reading → NotationData → Fault → List ℕ
fault_message name reading from fault =
    line_message name (line_of fault) (cause (why_not reading from (refused_in fault)) fault) (hint fault)

-- the messages that name faults, one after the other
abbrev pub messages : (name : List ℕ) → Reading → NotationData → List Fault → List ℕ
messages name reading from faults = flat_map (fault_message name reading from) faults
