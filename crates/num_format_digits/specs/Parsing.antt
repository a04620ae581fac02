-- What parsing a text in a digit set returns.
use Rattle.std.specs.Prelude.{◌≡◌, ◌⊎◌, ℕ, ◌<◌, ◌≤◌, List, length, Some, Result, Ok, Err, MatchResult}
use Rattle.std.specs.Str.{chars}
use Rattle.num_format_text.specs.Format.{FormatData}
use Rattle.num_format_rewriting.specs.Rewriting.{bytes_within}
use Rattle.num_format_decimal.specs.Ways.{Way}
use Rattle.num_format_decimal.specs.declared.buffer.TheConstants.{MAX_DECIMAL_LEN}
use Rattle.num_format_digits.specs.Digits.{HasOneSet, ascii_of, other_from, plain_char}
use Rattle.num_format_digits.specs.declared.parsing.DigitsError.{DigitsError}
use Rattle.num_format_digits.specs.declared.parsing.DigitsError.TheVariants.{OtherNumeral, TooLong, Number}

-- a text is not one of the set's digits, or too long
abbrev pub IsTextCause : {E : Type 0} → ℕ → List ℕ → DigitsError E → Type 0
IsTextCause z t (OtherNumeral at) = other_from z 0 (chars t) ≡ Some at
IsTextCause z t TooLong = HasOneSet z t × (MAX_DECIMAL_LEN < length (ascii_of z t))
IsTextCause z t (Number e) = ⊥

-- the place in a text of the character for which a place in the text with 0 to 9 stands
abbrev pub place_in : ℕ → List ℕ → ℕ → ℕ
place_in z t at = bytes_within (plain_char z) at (chars t)

-- when a text is refused for a cause, where the text with 0 to 9 is parsed as the relation says
abbrev pub IsDigitsCause : {X E : Type 0} → ((ℕ → ℕ) → E → E) → (List ℕ → Result X E → Type 0) → ℕ → List ℕ → DigitsError E → Type 0
IsDigitsCause placed parses z t (Number e) = HasOneSet z t × (length (ascii_of z t) ≤ MAX_DECIMAL_LEN)
    × ((inner : _) × parses (ascii_of z t) (Err inner) × (e ≡ placed (place_in z t) inner))
IsDigitsCause placed parses z t e = IsTextCause z t e

-- what is returned then: what the text with 0 to 9 is parsed as, if each of its numeric characters is a digit of the set, or the cause
abbrev pub ParsesDigits : {X E : Type 0} → ((ℕ → ℕ) → E → E) → (List ℕ → Result X E → Type 0) → ℕ → List ℕ
    → Result X (DigitsError E) → Type 0
ParsesDigits placed parses z t result =
    MatchResult result (λ x. HasOneSet z t × parses (ascii_of z t) (Ok x)) (IsDigitsCause placed parses z t)

-- what parsing in a digit set returns under a format: first of all its error if the way of parsing does not take the format
abbrev pub InDigits : {X E : Type 0} → Way X E → ((ℕ → ℕ) → E → E) → FormatData → ℕ → List ℕ → Result X (DigitsError E) → Type 0
InDigits way placed f z t result =
    (¬ way.Takes f × (result ≡ Err (Number way.ambiguous))) ⊎ (way.Takes f × ParsesDigits placed (way.Returns f) z t result)
