-- The format that a struct of a C program has.
use Rattle.std.specs.Prelude.{ℕ, ◌≡◌, ◌≤◌, ◌-◌, ◌==◌, List, ◌++◌, length, replicate, take, Option, None, unwrap_or, IsSome, IsUtf8}
use Rattle.std.specs.Prelude.{slice_get}
use Rattle.std.specs.Prelude.{if◌then◌else◌}
use Rattle.num_format.specs.English.{english}
use Rattle.num_format.specs.Format.{FormatData}
use Rattle.num_format.specs.Grouping.{Grouping}
use Rattle.num_format.specs.Grouping.TheVariants.{Posix}
use Rattle.num_format.specs.GroupingNames.{groupings}
use Rattle.num_format_digits.specs.Digits.{set_numbered}
use Rattle.num_format_c.specs.declared.format.NumFormat.{NumFormat}

-- the grouping for which a number stands
abbrev pub grouping_of : ℕ → Option Grouping
grouping_of number = if number == 0 then None else slice_get groupings (number - 1)

-- the data of `en`, but for the four that the text of a number depends on
abbrev pub format_with : List ℕ → Grouping → List ℕ → List ℕ → FormatData
format_with separator grouping minus_sign decimal_mark =
    record english { separator = separator; grouping = grouping; minus_sign = minus_sign; decimal = decimal_mark }

-- the separator of a struct
abbrev pub separator_of : NumFormat → List ℕ
separator_of s = take s.separator_len s.separator

-- the minus sign of a struct
abbrev pub minus_sign_of : NumFormat → List ℕ
minus_sign_of s = take s.minus_sign_len s.minus_sign

-- the decimal mark of a struct
abbrev pub decimal_mark_of : NumFormat → List ℕ
decimal_mark_of s = take s.decimal_mark_len s.decimal_mark

-- a text in an array of 8 bytes, with zeros after it
abbrev pub padded : List ℕ → List ℕ
padded text = text ++ replicate (8 - length text) 0

-- in each array of the struct, the bytes after the text are zero, and so are those that are reserved
pub record IsPadded (s : NumFormat) : Type 0 where
  pub separator : s.separator ≡ padded (separator_of s)
  pub minus_sign : s.minus_sign ≡ padded (minus_sign_of s)
  pub decimal_mark : s.decimal_mark ≡ padded (decimal_mark_of s)
  pub reserved : s.reserved ≡ replicate 3 0

-- the texts of the struct are UTF-8 within their arrays
pub record HasTexts (s : NumFormat) : Type 0 where
  pub separator_fits : s.separator_len ≤ 8
  pub separator : IsUtf8 (separator_of s)
  pub minus_sign_fits : s.minus_sign_len ≤ 8
  pub minus_sign : IsUtf8 (minus_sign_of s)
  pub decimal_mark_fits : s.decimal_mark_len ≤ 8
  pub decimal_mark : IsUtf8 (decimal_mark_of s)

-- the struct has the data of a format: it has texts, and its number stands for a grouping
pub record HasData (s : NumFormat) : Type 0 where
  pub texts : HasTexts s
  pub grouping : IsSome (grouping_of s.grouping)

-- it has a format: the number of its digits is that of a set too
abbrev pub HasFormat : NumFormat → Type 0
HasFormat s = HasData s × IsSome (set_numbered s.digits)

-- the zero of the set
abbrev pub digits_of : NumFormat → ℕ
digits_of s = unwrap_or (set_numbered s.digits) 48

-- it has a format whose digits are 0 to 9
abbrev pub HasLatin : NumFormat → Type 0
HasLatin s = HasData s × (s.digits ≡ 0)

-- the format that a struct has
abbrev pub format_of : NumFormat → FormatData
format_of s = format_with (separator_of s) (unwrap_or (grouping_of s.grouping) Posix) (minus_sign_of s) (decimal_mark_of s)

-- a format and a zero are those that a struct has
pub record IsFormatIn (f : FormatData) (zero : ℕ) (s : NumFormat) : Type 0 where
  pub has_format : HasFormat s
  pub digits : zero ≡ digits_of s
  pub format : f ≡ format_of s

-- a format is the one that a struct has, whose digits are 0 to 9
pub record IsFormatOf (f : FormatData) (s : NumFormat) : Type 0 where
  pub has_latin : HasLatin s
  pub format : f ≡ format_of s

-- two formats agree in the four data that the text of a number depends on
pub record Agrees (f g : FormatData) : Type 0 where
  pub separator : f.separator ≡ g.separator
  pub grouping : f.grouping ≡ g.grouping
  pub minus_sign : f.minus_sign ≡ g.minus_sign
  pub decimal_mark : f.decimal ≡ g.decimal
