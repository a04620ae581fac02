-- Laws of texts in a digit set.
use Rattle.std.specs.Prelude.{◌≡◌, ◌↔◌, ℕ, ℤ, false, List, map, IsUtf8}
use Rattle.std.specs.List.{list_any}
use Rattle.std.specs.Str.{chars}
use Rattle.num_format_text.specs.Format.{FormatData, HasUtf8Texts}
use Rattle.num_format_int.specs.Text.{text_of}
use Rattle.num_format_parsing.specs.Reading.{is_other_numeral}
use Rattle.num_format_parsing.specs.Strict.{IsUnambiguous, IsCanonical, ungrouped}
use Rattle.num_format_digits.specs.Digits.{HasOneSet, IsZero, ascii_of, in_digits, shown}

-- a text in a digit set has the digits of the set where the text has 0 to 9, and its other characters
abbrev pub ShownLaw : Type 0
ShownLaw = (zero : ℕ) (t : List ℕ) → IsZero zero → IsUtf8 t
    → IsUtf8 (in_digits zero t) × (chars (in_digits zero t) ≡ map (shown zero) (chars t))

-- a text without numerals but 0 to 9, shown in a set, is one of that set, and is that text again
abbrev pub ReadsBackLaw : Type 0
ReadsBackLaw = (zero : ℕ) (t : List ℕ) → IsZero zero → IsUtf8 t → list_any is_other_numeral (chars t) ≡ false →
    HasOneSet zero (in_digits zero t) × (ascii_of zero (in_digits zero t) ≡ t)

-- a text of one set is the text with 0 to 9, shown in the set
abbrev pub OneSetLaw : Type 0
OneSetLaw = (zero : ℕ) (t : List ℕ) → IsZero zero → IsUtf8 t → HasOneSet zero t → in_digits zero (ascii_of zero t) ≡ t

-- a text is canonical for n in a set: it is the text of n, or the text of n without grouping, in the digits of the set
pub data IsCanonicalIn (z : ℕ) (f : FormatData) (t : List ℕ) (n : ℤ) : Type 0 where
  with_separators : t ≡ in_digits z (text_of f n) → IsCanonicalIn z f t n
  without_separators : t ≡ in_digits z (text_of (ungrouped f) n) → IsCanonicalIn z f t n

-- under a format that is not ambiguous, a text is canonical for n in a set exactly if its numerals are of the set, and with 0 to 9 for them
-- it does
abbrev pub CanonicalLaw : Type 0
CanonicalLaw = (z : ℕ) (f : FormatData) (t : List ℕ) (n : ℤ) → IsZero z → IsUnambiguous f → HasUtf8Texts f → IsUtf8 t →
    IsCanonicalIn z f t n ↔ (HasOneSet z t × IsCanonical f (ascii_of z t) n)
