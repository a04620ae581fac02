-- Texts that may stand before or after a number.
use Rattle.std.specs.Prelude.{ℕ, ◌+◌, Bool, false, not, ◌&&◌, ◌==◌, if◌then◌else◌, List, [], ◌∷◌, ◌++◌, length, codes, encode_utf8}
use Rattle.std.specs.Prelude.{Option, Some, None}
use Rattle.std.specs.Borrow.{Bor}
use Rattle.std.specs.Char.Unicode.Alphabetic.{is_alphabetic}
use Rattle.std.specs.List.{fold}
use Rattle.std.specs.Option.{option_map, option_or}
use Rattle.std.specs.Str.{chars}
use Rattle.num_format_affixes.specs.Characters.{is_of_number}
use Rattle.num_format_affixes.specs.Parted.{IsParted}
use Rattle.num_format_affixes.specs.Sides.{is_at, without}
use Rattle.num_format_affixes.specs.declared.affixes.AffixError.{AffixError}
use Rattle.num_format_affixes.specs.declared.affixes.AffixError.TheVariants.{Empty, NumberCharacter}
use Rattle.num_format_affixes.specs.declared.parts.Parts.{Parts}
use Rattle.num_format_affixes.specs.declared.side.Side.{Side}
use Rattle.num_format_affixes.specs.declared.side.Side.TheVariants.{Start, End}

-- whether no affix may have a character there: numbers have it, and it is no point after a letter
abbrev pub is_barred : (after_letter : Bool) → ℕ → Bool
is_barred after_letter c = is_of_number c && not (after_letter && (c == 46))

-- the place of the first such character, where the characters begin at a place
abbrev pub barred_from : (after_letter : Bool) → (at : ℕ) → List ℕ → Option ℕ
barred_from after_letter at [] = None
barred_from after_letter at (c ∷ cs) =
    if is_barred after_letter c then Some at else barred_from (is_alphabetic c) (at + length (encode_utf8 c)) cs

-- what is wrong with the text of this index in a list, if anything is
abbrev pub error_of : (index : ℕ) → List ℕ → Option AffixError
error_of index text =
    if length text == 0 then Some (Empty index) else option_map (λ at. NumberCharacter index at) (barred_from false 0 (chars text))

-- the same of the first text with which anything is wrong, where the texts begin at an index
abbrev pub first_error : (index : ℕ) → List (Bor (List ℕ)) → Option AffixError
first_error index [] = None
first_error index (text ∷ texts) = option_or (error_of index text.now) (first_error (index + 1) texts)

-- whether the last character of a text is a letter
abbrev pub ends_with_letter : List ℕ → Bool
ends_with_letter text = fold (λ _ c. is_alphabetic c) false (chars text)

-- whether an affix is at an end of a text with a point after it
abbrev pub has_pointed : Side → (affix text : List ℕ) → Bool
has_pointed Start affix text = is_at Start affix text && is_at Start (codes ".") (without Start (length affix) text)
has_pointed End affix text = is_at End (codes ".") text && is_at End affix (without End 1 text)

-- how many bytes an affix has that is at an end of a text: a point after it is part of it if its last character is a letter
abbrev pub affix_len : Side → (affix text : List ℕ) → Option ℕ
affix_len side affix text =
    if has_pointed side affix text && ends_with_letter affix then Some (length affix + 1)
    else if is_at side affix text then Some (length affix)
    else None

-- the same of the first affix that is there
abbrev pub first_len : Side → List (Bor (List ℕ)) → List ℕ → Option ℕ
first_len side [] text = None
first_len side (affix ∷ affixes) text = option_or (affix_len side affix.now text) (first_len side affixes text)

-- a text is split by the first affix at its start, and by the first one at the end of what is left
abbrev pub IsSplit : List (Bor (List ℕ)) → (text : List ℕ) → Parts → Type 0
IsSplit affixes text parts =
    IsParted (first_len Start affixes text) (first_len End affixes (parts.inner.now ++ parts.after.now)) text parts

-- the message of an error
abbrev pub message_of : AffixError → List ℕ
message_of (Empty index) = codes "An affix is empty."
message_of (NumberCharacter index at) = codes "An affix has a character that numbers have."
