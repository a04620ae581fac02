-- Laws of what stands around a number.
use Rattle.std.specs.Prelude.{◌≡◌, ℕ, None, true, List, All, IsUtf8}
use Rattle.std.specs.Borrow.{Bor}
use Rattle.std.specs.List.{list_all}
use Rattle.std.specs.Str.{chars}
use Rattle.num_format_affixes.specs.Accounting.{IsNegative}
use Rattle.num_format_affixes.specs.Affixes.{IsSplit, first_error}
use Rattle.num_format_affixes.specs.Characters.{is_of_number}
use Rattle.num_format_affixes.specs.declared.parts.Parts.{Parts}

-- the same texts
pub record SameParts (p q : Parts) : Type 0 where
  pub before : p.before.now ≡ q.before.now
  pub inner : p.inner.now ≡ q.inner.now
  pub after : p.after.now ≡ q.after.now

-- a text is split in one way by affixes
abbrev pub SplitOnceLaw : Type 0
SplitOnceLaw = (affixes : List (Bor (List ℕ))) (text : List ℕ) (p q : Parts) → IsSplit affixes text p → IsSplit affixes text q
    → SameParts p q

-- and as a negative number
abbrev pub NegativeOnceLaw : Type 0
NegativeOnceLaw = (minus_sign text : List ℕ) (p q : Parts) → IsNegative minus_sign text p → IsNegative minus_sign text q → SameParts p q

-- a text that has characters of numbers alone is the number's own text: no affix takes a byte of it
abbrev pub OwnTextLaw : Type 0
OwnTextLaw = (affixes : List (Bor (List ℕ))) (text : List ℕ) (parts : Parts) → All (λ affix. IsUtf8 affix.now) affixes
    → first_error 0 affixes ≡ None → IsUtf8 text → list_all is_of_number (chars text) ≡ true → IsSplit affixes text parts
    → parts.inner.now ≡ text
