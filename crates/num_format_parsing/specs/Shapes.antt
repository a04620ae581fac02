-- What the steps of strict parsing find in the bytes of a text.
use Rattle.std.specs.Prelude.{◌≡◌, ℕ, ◌+◌, ◌-◌, ◌<◌, ◌≤◌, Bool, List, [], ◌∷◌, length, map, filter, IsUtf8}
use Rattle.std.specs.Char.{is_ascii_digit}
use Rattle.num_format_text.specs.Format.{FormatData}
use Rattle.num_format_int.specs.Grouped.{printed_separator}
use Rattle.num_format_parsing.specs.Reading.{is_negative_text}
use Rattle.num_format_parsing.specs.Strict.{IsUnambiguous, sign_len}

-- the digits among bytes: the digits of a text in UTF-8, without its characters; 48 is the character 0
abbrev pub byte_digits : List ℕ → List ℕ
byte_digits t = map (λ b. b - 48) (filter is_ascii_digit t)

-- bytes begin with a digit that is not zero
pub record BeginsWithDigit (t : List ℕ) : Type 0 where
  pub digit : ℕ
  pub rest : List ℕ
  pub some : 0 < digit
  pub small : digit < 10
  pub same : t ≡ (48 + digit) ∷ rest

-- the symbols of a format that is not ambiguous, as bytes
pub record HasPlainSymbols (f : FormatData) : Type 0 where
  pub unambiguous : IsUnambiguous f
  pub sign_utf8 : IsUtf8 f.minus_sign
  pub sign_some : 0 < length f.minus_sign
  pub sign : byte_digits f.minus_sign ≡ []
  pub separator_utf8 : IsUtf8 (printed_separator f.grouping f.separator)
  pub separator : byte_digits (printed_separator f.grouping f.separator) ≡ []

-- under such a format a text is negative or not, and the minus sign at its start has that length
pub record HasSign (f : FormatData) (t : List ℕ) (negative : Bool) (start : ℕ) : Type 0 where
  pub symbols : HasPlainSymbols f
  pub tested : negative ≡ is_negative_text f t
  pub long : start ≡ sign_len f t
  pub within : start ≤ length t
