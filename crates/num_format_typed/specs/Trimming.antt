-- Texts without some characters at their ends.
use Rattle.std.specs.Prelude.{◌≡◌, if◌then◌else◌, ℕ, ◌++◌, Bool, List, [], ◌∷◌, true}
use Rattle.std.specs.Char.{is_ascii_digit}
use Rattle.std.specs.List.{list_all}
use Rattle.std.specs.Str.{chars, encode_utf8_all}

-- characters without those that pass a test, at the start and at the end
abbrev pub trim_front : (ℕ → Bool) → List ℕ → List ℕ
trim_front p [] = []
trim_front p (c ∷ cs) = if p c then trim_front p cs else c ∷ cs

abbrev pub trim_end : (ℕ → Bool) → List ℕ → List ℕ
trim_end p [] = []
trim_end p (c ∷ cs) = if list_all p (c ∷ cs) then [] else c ∷ trim_end p cs

-- a text without such characters at its start, at its end, and at both
abbrev pub without_front : (ℕ → Bool) → List ℕ → List ℕ
without_front p t = encode_utf8_all (trim_front p (chars t))

abbrev pub without_end : (ℕ → Bool) → List ℕ → List ℕ
without_end p t = encode_utf8_all (trim_end p (chars t))

abbrev pub without_ends : (ℕ → Bool) → List ℕ → List ℕ
without_ends p t = without_end p (without_front p t)

-- the last byte of a text is a digit
abbrev pub EndsInDigit : List ℕ → Type 0
EndsInDigit t = (front : List ℕ) × (d : ℕ) × (t ≡ front ++ d ∷ []) × (is_ascii_digit d ≡ true)
