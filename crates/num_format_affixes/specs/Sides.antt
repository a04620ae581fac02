-- The two ends of a text, and what stands there.
use Rattle.std.specs.Prelude.{◌≡◌, ℕ, ◌-◌, nat_eq, Bool, false, if◌then◌else◌, List, [], ◌∷◌, length, drop, take, slice_get}
use Rattle.std.specs.Prelude.{Option, Some, None}
use Rattle.std.specs.Char.{is_ascii_whitespace}
use Rattle.std.specs.List.{ends_with, starts_with}
use Rattle.std.specs.Option.{option_map_or}
use Rattle.num_format_affixes.specs.declared.side.Side.{Side}
use Rattle.num_format_affixes.specs.declared.side.Side.TheVariants.{Start, End}

-- whether these bytes are at an end of a text
abbrev pub is_at : Side → (bytes text : List ℕ) → Bool
is_at Start bytes text = starts_with nat_eq text bytes
is_at End bytes text = ends_with nat_eq text bytes

-- a text without so many bytes at an end
abbrev pub without : Side → (len : ℕ) → List ℕ → List ℕ
without Start len text = drop len text
without End len text = take (length text - len) text

-- the byte at an end of a text
abbrev pub byte_at : Side → List ℕ → Option ℕ
byte_at Start text = slice_get text 0
byte_at End text = slice_get text (length text - 1)

-- how many bytes the blank has that is at an end of a text, if one is: ASCII whitespace, U+00A0 or U+202F
abbrev pub blank_len : Side → List ℕ → Option ℕ
blank_len side text =
    if option_map_or is_ascii_whitespace (byte_at side text) false then Some 1
    else if is_at side (0xC2 ∷ 0xA0 ∷ []) text then Some 2
    else if is_at side (0xE2 ∷ 0x80 ∷ 0xAF ∷ []) text then Some 3
    else None

-- what is left of a text without the blanks at an end: the text, if no blank is there, or else what is left so without one of them
pub data IsWithoutBlanks (side : Side) (rest : List ℕ) : List ℕ → Type 0 where
  none : (text : List ℕ) → blank_len side text ≡ None → rest ≡ text → IsWithoutBlanks side rest text
  one_less : (len : ℕ) (text : List ℕ) → blank_len side text ≡ Some len → IsWithoutBlanks side rest (without side len text)
      → IsWithoutBlanks side rest text

-- what is left of a text without so many bytes at an end and the blanks beside them, or the text if there are none
abbrev pub IsWithout : Side → Option ℕ → (text rest : List ℕ) → Type 0
IsWithout side None text rest = rest ≡ text
IsWithout side (Some len) text rest = IsWithoutBlanks side rest (without side len text)
