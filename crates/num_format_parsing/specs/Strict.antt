-- What strict parsing returns, and when it refuses a text for which cause.
use Rattle.std.specs.Prelude.{◌≡◌, ◌↔◌, ℕ, zero, suc, ◌-◌, ◌<◌, ℤ, nat_eq, Bool, false, List, [], ◌∷◌, length, drop, if◌then◌else◌, Result}
use Rattle.std.specs.Prelude.{Err, IsOk, IfOk, IsUtf8, codes}
use Rattle.std.specs.Char.{is_ascii_digit}
use Rattle.std.specs.List.{list_any, starts_with}
use Rattle.std.specs.Str.{chars}
use Rattle.num_format_text.specs.declared.grouping.Grouping.TheVariants.{Posix}
use Rattle.num_format_text.specs.Format.{FormatData}
use Rattle.num_format_int.specs.Grouped.{printed_separator}
use Rattle.num_format_int.specs.Kind.{Kind, IsValueOf}
use Rattle.num_format_int.specs.Text.{text_of}
use Rattle.num_format_parsing.specs.Reading.{text_digits, is_negative_text, is_other_numeral}
use Rattle.num_format_parsing.specs.declared.error.StrictError.{StrictError}
use Rattle.num_format_parsing.specs.declared.error.StrictError.TheVariants.{AmbiguousFormat, NotUtf8, Unexpected, NoDigit, Misspelled}
use Rattle.num_format_parsing.specs.declared.error.StrictError.TheVariants.{OutOfRange, TooManyDecimals}

-- a text without digits and other numeric characters
pub record HasNoNumeral (text : List ℕ) : Type 0 where
  pub no_digit : text_digits text ≡ []
  pub no_other : list_any is_other_numeral (chars text) ≡ false

-- the minus sign is not empty, and neither it nor a printed separator has a digit or another numeric character
pub record IsUnambiguous (f : FormatData) : Type 0 where
  pub sign_given : ¬ (f.minus_sign ≡ [])
  pub sign : HasNoNumeral f.minus_sign
  pub separator : HasNoNumeral (printed_separator f.grouping f.separator)

-- the format without grouping
abbrev pub ungrouped : FormatData → FormatData
ungrouped f = record f { grouping = Posix }

-- a text is canonical for z: it is the text of z, or the text of z without grouping
pub data IsCanonical (f : FormatData) (t : List ℕ) (z : ℤ) : Type 0 where
  with_separators : t ≡ text_of f z → IsCanonical f t z
  without_separators : t ≡ text_of (ungrouped f) z → IsCanonical f t z

-- a text begins with a separator that is not empty
abbrev pub begins : List ℕ → List ℕ → Bool
begins [] t = false
begins (b ∷ separator) t = starts_with nat_eq t (b ∷ separator)

-- what is left of a text after whole separators and digits, a separator tried first; `inside` bytes of a separator are still to come
abbrev pub unread : List ℕ → ℕ → List ℕ → List ℕ
unread separator inside [] = []
unread separator (suc inside) (b ∷ t) = unread separator inside t
unread separator zero (b ∷ t) =
    if begins separator (b ∷ t) then unread separator (length separator - 1) t
    else if is_ascii_digit b then unread separator 0 t
    else b ∷ t

-- the length of the minus sign if it is the prefix of a text, and else 0
abbrev pub sign_len : FormatData → List ℕ → ℕ
sign_len f t = if is_negative_text f t then length f.minus_sign else 0

-- what is left of a text after its minus sign, digits and whole separators of the kind that the grouping prints
abbrev pub unexpected : FormatData → List ℕ → List ℕ
unexpected f t = unread (printed_separator f.grouping f.separator) 0 (drop (sign_len f t) t)

-- the first byte of a text that is unexpected is the one at that place
pub record StopsAt (f : FormatData) (t : List ℕ) (at : ℕ) : Type 0 where
  pub utf8 : IsUtf8 t
  pub inside : at < length t
  pub rest : unexpected f t ≡ drop at t

-- no byte of a text is unexpected
pub record IsExpected (f : FormatData) (t : List ℕ) : Type 0 where
  pub utf8 : IsUtf8 t
  pub rest : unexpected f t ≡ []

-- no byte is unexpected, and there is no digit
pub record LacksDigit (f : FormatData) (t : List ℕ) : Type 0 where
  pub expected : IsExpected f t
  pub none : text_digits t ≡ []

-- no byte is unexpected, there is a digit, and the text is canonical for no number
pub record IsMisspelled (f : FormatData) (t : List ℕ) : Type 0 where
  pub expected : IsExpected f t
  pub some : ¬ (text_digits t ≡ [])
  pub wrong : (z : ℤ) → ¬ (IsCanonical f t z)

-- the text is canonical for a number that is no value of the kind
pub record IsOutOfRange (k : Kind) (f : FormatData) (t : List ℕ) : Type 0 where
  pub number : ℤ
  pub canonical : IsCanonical f t number
  pub wrong : ¬ (IsValueOf k number)

-- when a text is refused for a cause
abbrev pub IsCause : Kind → FormatData → List ℕ → StrictError → Type 0
IsCause k f t AmbiguousFormat = ¬ (IsUnambiguous f)
IsCause k f t NotUtf8 = IsUnambiguous f × ¬ (IsUtf8 t)
IsCause k f t (Unexpected at) = IsUnambiguous f × StopsAt f t at
IsCause k f t NoDigit = IsUnambiguous f × LacksDigit f t
IsCause k f t TooManyDecimals = ⊥
IsCause k f t Misspelled = IsUnambiguous f × IsMisspelled f t
IsCause k f t OutOfRange = IsUnambiguous f × IsOutOfRange k f t

-- what strict parsing returns of a text as a number of a kind: the one number for which the text is canonical, if the format is not
-- ambiguous and the number is a value of the kind, and else an error exactly if it is the cause
pub record ParsesStrictly {X : Type 0} (k : Kind) (value : X → ℤ) (f : FormatData) (t : List ℕ)
    (result : Result X StrictError) : Type 0 where
  pub number : IfOk result (λ n. (z : ℤ) → IsCanonical f t z ↔ (z ≡ value n))
  pub accepted : IsOk result ↔ (IsUnambiguous f × ((z : ℤ) × IsCanonical f t z × IsValueOf k z))
  pub refused : (e : StrictError) → (result ≡ Err e) ↔ IsCause k f t e

-- the message of an error
abbrev pub strict_message_of : StrictError → List ℕ
strict_message_of AmbiguousFormat = codes "The format is ambiguous."
strict_message_of NotUtf8 = codes "The bytes are not UTF-8."
strict_message_of (Unexpected at) = codes "The text has an unexpected byte."
strict_message_of NoDigit = codes "The text has no digit."
strict_message_of TooManyDecimals = codes "The text has more than 38 decimals."
strict_message_of Misspelled = codes "The text is not as the number is printed."
strict_message_of OutOfRange = codes "The number is no value of the type."
