-- Negative numbers as accountants and banks write them: in parentheses, or with the minus sign at the end.
use Rattle.std.specs.Prelude.{◌≡◌, ℕ, ◌+◌, ◌-◌, Bool, not, ◌&&◌, ◌||◌, ◌==◌, if◌then◌else◌, List, [], ◌∷◌, ◌++◌, length, drop}
use Rattle.std.specs.Prelude.{codes, Option, Some, None, is_some, MatchOption, Result, Ok, Err}
use Rattle.std.specs.Int.{is_in_range}
use Rattle.std.specs.List.{list_any}
use Rattle.std.specs.Option.{option_map}
use Rattle.num_format_affixes.specs.Parted.{IsParted}
use Rattle.num_format_affixes.specs.Sides.{is_at}
use Rattle.num_format_affixes.specs.declared.negative.AccountingError.{AccountingError}
use Rattle.num_format_affixes.specs.declared.negative.AccountingError.TheVariants.{SecondSign}
use Rattle.num_format_affixes.specs.declared.parts.Parts.{Parts}
use Rattle.num_format_affixes.specs.declared.side.Side.{Side}
use Rattle.num_format_affixes.specs.declared.side.Side.TheVariants.{Start, End}

-- whether a text begins with a parenthesis, and ends with one after it
abbrev pub is_in_parentheses : List ℕ → Bool
is_in_parentheses text = is_at Start (codes "(") text && is_at End (codes ")") (drop 1 text)

-- how many bytes the minus sign has that is at an end of a text: that of the format if it has one, or else a hyphen or U+2212
abbrev pub minus_len : Side → (minus_sign text : List ℕ) → Option ℕ
minus_len side minus_sign text =
    if not (length minus_sign == 0) && is_at side minus_sign text then Some (length minus_sign)
    else if is_at side (codes "-") text then Some 1
    else if is_at side (0xE2 ∷ 0x88 ∷ 0x92 ∷ []) text then Some 3
    else None

-- the same of any sign: a plus sign, a parenthesis, or a minus sign
abbrev pub sign_len : Side → (minus_sign text : List ℕ) → Option ℕ
sign_len side minus_sign text =
    if is_at side (codes "+") text || is_at side (codes "(") text || is_at side (codes ")") text then Some 1
    else minus_len side minus_sign text

-- the place of the sign with which a text begins, or else ends
abbrev pub second_sign : (minus_sign text : List ℕ) → Option ℕ
second_sign minus_sign text =
    if is_some (sign_len Start minus_sign text) then Some 0
    else option_map (λ len. length text - len) (sign_len End minus_sign text)

-- how many bytes are before and after the number in a text that is written as a negative one, if it is: its parentheses, or else the minus
-- sign at its end
abbrev pub marks_of : (minus_sign text : List ℕ) → Option (Option ℕ × Option ℕ)
marks_of minus_sign text =
    if is_in_parentheses text then Some (Some 1, Some 1)
    else option_map (λ len. (None, Some len)) (minus_len End minus_sign text)

-- the text is written as a negative number, and these are its parts
abbrev pub IsNegative : (minus_sign text : List ℕ) → Parts → Type 0
IsNegative minus_sign text parts = MatchOption (marks_of minus_sign text) ⊥ (λ marks. IsParted marks.0 marks.1 text parts)

-- what is returned of a text: its parts, if it is written as a negative number, and these have no second sign
pub data AccountingResult (minus_sign text : List ℕ) (result : Result (Option Parts) AccountingError) : Type 0 where
  other : marks_of minus_sign text ≡ None → result ≡ Ok None → AccountingResult minus_sign text result
  negative : (parts : Parts) → IsNegative minus_sign text parts → second_sign minus_sign parts.inner.now ≡ None → result ≡ Ok (Some parts)
      → AccountingResult minus_sign text result
  signed_twice : (parts : Parts) (place : ℕ) → IsNegative minus_sign text parts → second_sign minus_sign parts.inner.now ≡ Some place
      → result ≡ Err (SecondSign (length parts.before.now + place)) → AccountingResult minus_sign text result

-- whether a text has the digit 0 and none of 1 to 9
abbrev pub is_zero : List ℕ → Bool
is_zero text = list_any (λ b. b == 48) text && not (list_any (is_in_range 49 57) text)

-- the text of a negative number for a parser, by its own text: a zero has no sign
abbrev pub signed_text : (minus_sign number : List ℕ) → List ℕ
signed_text minus_sign number = if is_zero number then number else minus_sign ++ number

-- the message of an error
abbrev pub message_of : AccountingError → List ℕ
message_of (SecondSign at) = codes "The text has two signs."
