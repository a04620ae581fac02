-- What a builder has after calls, and what it builds.
use Rattle.num_format_text.specs.declared.capacities.TheConstants.{MAX_DEC_LEN, MAX_INF_LEN, MAX_MIN_LEN, MAX_NAN_LEN, MAX_PLUS_LEN}
use Rattle.num_format_text.specs.declared.capacities.TheConstants.{MAX_SEP_LEN}
use Rattle.std.specs.Prelude.{ℕ, nat_le, List, length, Option, Some, None, unwrap_or, Result, Ok, Err, if◌then◌else◌}
use Rattle.std.specs.List.{filter_map, last_or}
use Rattle.num_format_text.specs.declared.grouping.Grouping.{Grouping}
use Rattle.num_format_text.specs.declared.error.Error.{Error}
use Rattle.num_format_text.specs.declared.error_kind.ErrorKind.TheVariants as kind
use Rattle.num_format_text.specs.English.{english}
use Rattle.num_format_text.specs.Format.{FormatData}

-- a text, or the length in bytes of a text that is too long
abbrev pub Choice : Type 0
Choice = Result (List ℕ) ℕ

-- what a field of some capacity has once it is given a text
abbrev pub chosen : ℕ → List ℕ → Choice
chosen cap text = if nat_le (length text) cap then Ok text else Err (length text)

-- what each field of a builder has
pub record Choices : Type 0 where
  pub decimal : Choice
  pub grouping : Grouping
  pub infinity : Choice
  pub minus_sign : Choice
  pub nan : Choice
  pub plus_sign : Choice
  pub separator : Choice

-- what the fields of a builder have that was given the data of a format
abbrev pub choices_of : FormatData → Choices
choices_of f = record {
  decimal = Ok f.decimal;
  grouping = f.grouping;
  infinity = Ok f.infinity;
  minus_sign = Ok f.minus_sign;
  nan = Ok f.nan;
  plus_sign = Ok f.plus_sign;
  separator = Ok f.separator;
}

-- a call of a builder's method: of the setter of one field with the bytes of its text or with its grouping, or of `format` with the data of
-- a format
pub data Call : Type 0 where
  SetDecimal : List ℕ → Call
  SetGrouping : Grouping → Call
  SetInfinity : List ℕ → Call
  SetMinusSign : List ℕ → Call
  SetNan : List ℕ → Call
  SetPlusSign : List ℕ → Call
  SetSeparator : List ℕ → Call
  SetFormat : FormatData → Call

-- what a builder has after one more call; after a list of calls it is the `fold` of this
abbrev pub after_call : Choices → Call → Choices
after_call c (SetDecimal text) = record c { decimal = chosen MAX_DEC_LEN text }
after_call c (SetGrouping grouping) = record c { grouping = grouping }
after_call c (SetInfinity text) = record c { infinity = chosen MAX_INF_LEN text }
after_call c (SetMinusSign text) = record c { minus_sign = chosen MAX_MIN_LEN text }
after_call c (SetNan text) = record c { nan = chosen MAX_NAN_LEN text }
after_call c (SetPlusSign text) = record c { plus_sign = chosen MAX_PLUS_LEN text }
after_call c (SetSeparator text) = record c { separator = chosen MAX_SEP_LEN text }
after_call c (SetFormat f) = choices_of f

-- what follows from the text of a choice, or the error of a text that is too long for the capacity
abbrev pub and_then : {X : Type 0} → ℕ → Choice → (List ℕ → Result X Error) → Result X Error
and_then cap (Ok text) next = next text
and_then cap (Err len) next = Err (kind.Capacity len cap)

-- the format with the texts of all choices, or the first error in this order
abbrev pub built : Choices → Result FormatData Error
built c =
    and_then MAX_DEC_LEN c.decimal (λ decimal.
    and_then MAX_INF_LEN c.infinity (λ infinity.
    and_then MAX_MIN_LEN c.minus_sign (λ minus_sign.
    and_then MAX_NAN_LEN c.nan (λ nan.
    and_then MAX_PLUS_LEN c.plus_sign (λ plus_sign.
    and_then MAX_SEP_LEN c.separator (λ separator. Ok (record {
      decimal = decimal;
      grouping = c.grouping;
      infinity = infinity;
      minus_sign = minus_sign;
      nan = nan;
      plus_sign = plus_sign;
      separator = separator;
    })))))))

-- en's format with these three fields, or the error of a field that is too long
abbrev pub custom_format : List ℕ → Grouping → List ℕ → Result FormatData Error
custom_format separator grouping minus_sign = built (record (choices_of english) {
  separator = chosen MAX_SEP_LEN separator;
  grouping = grouping;
  minus_sign = chosen MAX_MIN_LEN minus_sign;
})

-- what a call gives to the decimal mark, if it sets that field; and so on for the other fields
abbrev pub to_decimal : Call → Option Choice
to_decimal (SetDecimal text) = Some (chosen MAX_DEC_LEN text)
to_decimal (SetFormat f) = Some (Ok f.decimal)
to_decimal _ = None

abbrev pub to_grouping : Call → Option Grouping
to_grouping (SetGrouping grouping) = Some grouping
to_grouping (SetFormat f) = Some f.grouping
to_grouping _ = None

abbrev pub to_infinity : Call → Option Choice
to_infinity (SetInfinity text) = Some (chosen MAX_INF_LEN text)
to_infinity (SetFormat f) = Some (Ok f.infinity)
to_infinity _ = None

abbrev pub to_minus_sign : Call → Option Choice
to_minus_sign (SetMinusSign text) = Some (chosen MAX_MIN_LEN text)
to_minus_sign (SetFormat f) = Some (Ok f.minus_sign)
to_minus_sign _ = None

abbrev pub to_nan : Call → Option Choice
to_nan (SetNan text) = Some (chosen MAX_NAN_LEN text)
to_nan (SetFormat f) = Some (Ok f.nan)
to_nan _ = None

abbrev pub to_plus_sign : Call → Option Choice
to_plus_sign (SetPlusSign text) = Some (chosen MAX_PLUS_LEN text)
to_plus_sign (SetFormat f) = Some (Ok f.plus_sign)
to_plus_sign _ = None

abbrev pub to_separator : Call → Option Choice
to_separator (SetSeparator text) = Some (chosen MAX_SEP_LEN text)
to_separator (SetFormat f) = Some (Ok f.separator)
to_separator _ = None

-- the last value that the calls give to a field, or what it had before them
abbrev pub last_value : {X : Type 0} → (Call → Option X) → X → List Call → X
last_value given before calls = unwrap_or (last_or None (filter_map given calls)) before

-- the last value of each field
abbrev pub last_choices : Choices → List Call → Choices
last_choices before calls = record {
  decimal = last_value to_decimal before.decimal calls;
  grouping = last_value to_grouping before.grouping calls;
  infinity = last_value to_infinity before.infinity calls;
  minus_sign = last_value to_minus_sign before.minus_sign calls;
  nan = last_value to_nan before.nan calls;
  plus_sign = last_value to_plus_sign before.plus_sign calls;
  separator = last_value to_separator before.separator calls;
}
