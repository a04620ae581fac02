-- Digit sets, and texts in their digits.
use Rattle.std.specs.Prelude.{◌≡◌, ◌≤◌, ℕ, ◌+◌, ◌-◌, Bool, not, ◌&&◌, if◌then◌else◌, List, [], ◌∷◌, Contains}
use Rattle.std.specs.Prelude.{bytes_eq, false, find, length, map, slice_get, take, Option, Some, None, unwrap_or, encode_utf8, IsUtf8}
use Rattle.std.specs.Char.{is_ascii_digit}
use Rattle.std.specs.Int.{is_in_range}
use Rattle.std.specs.List.{flat_map, list_any}
use Rattle.std.specs.Option.{option_or}
use Rattle.std.specs.Str.{chars}
use Rattle.num_format_parsing.specs.Reading.{is_numeric, is_other_numeral}
use Rattle.num_format_rewriting.specs.Rewriting.{images}
use Rattle.num_format_digits.specs.Sets.{locales, sets}

-- the zero that stands beside a name
abbrev pub zero_among : List (List ℕ × ℕ) → List ℕ → Option ℕ
zero_among [] name = None
zero_among (row ∷ rows) name = if bytes_eq row.0 name then Some row.1 else zero_among rows name

-- the zero of the set of a name
abbrev pub digits_named : List ℕ → Option ℕ
digits_named name = zero_among sets name

-- the zero of the default set of a locale; 48 is that of `latn`
abbrev pub default_zero : List ℕ → ℕ
default_zero name = unwrap_or (zero_among locales name) 48

-- the zeros of the sets, and those of the locales' default sets
abbrev pub zeros : List (List ℕ × ℕ) → List ℕ
zeros rows = map (λ row. row.1) rows

-- the zero of the set for which a number stands: its place in the order of the sets
abbrev pub set_numbered : ℕ → Option ℕ
set_numbered number = slice_get (zeros sets) number

-- a code point is the zero of a set
abbrev pub IsZero : ℕ → Type 0
IsZero z = Contains (zeros sets) z

-- bytes begin with those of a set's zero, which are so many
pub record HasZero (z count : ℕ) (bytes : List ℕ) : Type 0 where
  pub same : take count bytes ≡ encode_utf8 z
  pub some : 1 ≤ count
  pub within : count ≤ length bytes

-- a character is a digit of the set
abbrev pub is_digit_of : ℕ → ℕ → Bool
is_digit_of z c = is_in_range z (z + 9) c

-- the digit of a set in place of a digit 0 to 9, and back; 48 is the character 0
abbrev pub shown : ℕ → ℕ → ℕ
shown z c = if is_ascii_digit c then z + (c - 48) else c

abbrev pub plain_char : ℕ → ℕ → ℕ
plain_char z c = if is_digit_of z c then 48 + (c - z) else c

-- the zero of the set of a character, if it is a decimal digit
abbrev pub set_of : ℕ → Option ℕ
set_of c = find (λ z. is_digit_of z c) (zeros sets)

-- the zero of the set of the first decimal digit among characters
abbrev pub first_set : List ℕ → Option ℕ
first_set [] = None
first_set (c ∷ cs) = option_or (set_of c) (first_set cs)

-- a character is numeric, and no digit of the set
abbrev pub is_other : ℕ → ℕ → Bool
is_other z c = not (is_digit_of z c) && is_numeric c

-- the place of the first such character, where the characters begin at a place
abbrev pub other_from : ℕ → ℕ → List ℕ → Option ℕ
other_from z at [] = None
other_from z at (c ∷ cs) = if is_other z c then Some at else other_from z (at + length (encode_utf8 c)) cs

-- each numeric character of a text is a digit of the set
abbrev pub HasOneSet : ℕ → List ℕ → Type 0
HasOneSet z t = other_from z 0 (chars t) ≡ None

-- a byte, or the digit in its place
abbrev pub shown_byte : ℕ → ℕ → List ℕ
shown_byte z b = if is_ascii_digit b then encode_utf8 (z + (b - 48)) else b ∷ []

-- a text with the digits of a set for its bytes 0 to 9
abbrev pub in_digits : ℕ → List ℕ → List ℕ
in_digits z t = flat_map (shown_byte z) t

-- a text with 0 to 9 for the digits of a set
abbrev pub ascii_of : ℕ → List ℕ → List ℕ
ascii_of z t = images (plain_char z) t

-- a text without numerals but 0 to 9
abbrev pub HasNoOthers : List ℕ → Type 0
HasNoOthers t = IsUtf8 t × (list_any is_other_numeral (chars t) ≡ false)

-- U+00A0, U+061C, U+066B and U+066C, as two bytes each: formats of locales have them
abbrev pub common_pairs : List (List ℕ)
common_pairs = (0xC2 ∷ 0xA0 ∷ []) ∷ (0xD8 ∷ 0x9C ∷ []) ∷ (0xD9 ∷ 0xAB ∷ []) ∷ (0xD9 ∷ 0xAC ∷ []) ∷ []

-- U+200E, U+200F, U+2019, U+202F and U+2212, as three bytes each
abbrev pub common_triples : List (List ℕ)
common_triples =
    (0xE2 ∷ 0x80 ∷ 0x8E ∷ []) ∷ (0xE2 ∷ 0x80 ∷ 0x8F ∷ []) ∷ (0xE2 ∷ 0x80 ∷ 0x99 ∷ []) ∷ (0xE2 ∷ 0x80 ∷ 0xAF ∷ [])
    ∷ (0xE2 ∷ 0x88 ∷ 0x92 ∷ []) ∷ []
