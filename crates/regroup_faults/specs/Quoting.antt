-- A text as messages show it.
use Rattle.std.specs.Prelude.{ℕ, ◌+◌, ◌/◌, ◌%◌, ◌==◌, nat_lt, codes, Bool, not, ◌&&◌, ◌||◌, if◌then◌else◌, List, [], ◌∷◌, ◌++◌, take}
use Rattle.std.specs.Char.{is_ascii_graphic}
use Rattle.std.specs.List.{flat_map, list_any}
use Rattle.std.specs.Str.{byte}

-- the backslash
abbrev pub BACKSLASH : ℕ
BACKSLASH = 92

-- a byte that is shown as it is: printable ASCII, but not the backslash
abbrev pub is_shown : ℕ → Bool
is_shown b = (is_ascii_graphic b || (b == byte " ")) && not (b == BACKSLASH)

-- a digit of base 16, as `0` to `9` or `A` to `F`
abbrev pub hex_digit : ℕ → ℕ
hex_digit n = if nat_lt n 10 then n + 48 else n + 55

-- a byte, or `\x` and its two digits of base 16
abbrev pub shown_byte : ℕ → List ℕ
shown_byte b = if is_shown b then b ∷ [] else BACKSLASH ∷ byte "x" ∷ hex_digit (b / 16) ∷ hex_digit (b % 16) ∷ []

-- so many bytes of a text at most, each shown
abbrev pub shown : ℕ → List ℕ → List ℕ
shown most text = flat_map shown_byte (take most text)

-- whether a text has a single quote
abbrev pub has_quote : List ℕ → Bool
has_quote text = list_any (λ b. b == byte "'") text

-- the quotes around a text: double ones if it has a single one
abbrev pub quote_around : List ℕ → List ℕ
quote_around text = if has_quote text then codes "\"" else codes "'"

-- the first 64 bytes of an input, shown, in quotes
abbrev pub quoted : List ℕ → List ℕ
quoted text = quote_around text ++ (shown 64 text ++ quote_around text)
