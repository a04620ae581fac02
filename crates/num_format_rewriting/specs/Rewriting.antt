-- Texts rewritten character by character.
use Rattle.std.specs.Prelude.{◌≡◌, if◌then◌else◌, ℕ, ◌+◌, ◌-◌, nat_le, List, [], ◌∷◌, encode_utf8, length, map, true}
use Rattle.std.specs.Char.{is_ascii_digit}
use Rattle.std.specs.Str.{chars, encode_utf8_all}

-- a text with the image of each character in its place
abbrev pub images : (ℕ → ℕ) → List ℕ → List ℕ
images image t = encode_utf8_all (map image (chars t))

-- each digit is its own image
abbrev pub KeepsDigits : (ℕ → ℕ) → Type 0
KeepsDigits image = (c : ℕ) → is_ascii_digit c ≡ true → image c ≡ c

-- the bytes of the characters in front whose images take no more than so many bytes
abbrev pub bytes_within : (ℕ → ℕ) → ℕ → List ℕ → ℕ
bytes_within image room [] = 0
bytes_within image room (c ∷ cs) =
    if nat_le (length (encode_utf8 (image c))) room
    then length (encode_utf8 c) + bytes_within image (room - length (encode_utf8 (image c))) cs
    else 0
