-- The sums of columns, and what a line adds to them.
use Rattle.std.specs.Prelude.{◌≡◌, ◌⊎◌, ⊤, ℕ, zero, suc, ◌==◌, ◌<◌, Bool, List, [], ◌∷◌, ◌++◌, length, take, drop, get_or, if◌then◌else◌}
use Rattle.std.specs.Prelude.{Option, None, Some, Result, Ok, Err}
use Rattle.std.specs.List.{slice_split}
use Rattle.num_format.specs.Format.{FormatData}
use Rattle.num_format_decimal.specs.FixedPoint.{FixedPoint}
use Rattle.num_format_decimal.specs.Parsing.{ParsesDecimal}
use Rattle.num_format_decimal.specs.Values.{HasUnits, plus}
use Rattle.regroup_lines.specs.Lines.{MARK, begins_with_mark}
use Rattle.regroup_stream.specs.declared.sums.Unsummed.{Unsummed}
use Rattle.regroup_stream.specs.declared.sums.Unsummed.TheVariants.{Failed, TooLarge}

-- a sum with a number added, where there are both
abbrev pub with_number : (sum number : Option FixedPoint) → Option FixedPoint
with_number None number = number
with_number (Some sum) None = Some sum
with_number (Some sum) (Some number) = Some (plus sum number)

-- the sums of columns with the numbers of one more line added, which may have more columns
abbrev pub with_numbers : (numbers sums : List (Option FixedPoint)) → List (Option FixedPoint)
with_numbers [] sums = sums
with_numbers (number ∷ numbers) [] = number ∷ numbers
with_numbers (number ∷ numbers) (sum ∷ sums) = with_number sum number ∷ with_numbers numbers sums

-- the same of a number in one column, which may be the next one
abbrev pub with_number_at : (column : ℕ) → (number : Option FixedPoint) → (sums : List (Option FixedPoint)) → List (Option FixedPoint)
with_number_at column number [] = number ∷ []
with_number_at zero number (sum ∷ sums) = with_number sum number ∷ sums
with_number_at (suc column) number (sum ∷ sums) = sum ∷ with_number_at column number sums

-- the number of a text: an empty one has none
abbrev pub IsNumber : FormatData → List ℕ → Option FixedPoint → Type 0
IsNumber format text None = text ≡ []
IsNumber format text (Some number) = ParsesDecimal format text number

-- the numbers of texts
pub data AreNumbers (format : FormatData) : List (List ℕ) → List (Option FixedPoint) → Type 0 where
  none : AreNumbers format [] []
  more : (texts : List (List ℕ)) (numbers : List (Option FixedPoint)) (text : List ℕ) (number : Option FixedPoint) →
      AreNumbers format texts numbers → IsNumber format text number → AreNumbers format (texts ++ text ∷ []) (numbers ++ number ∷ [])

-- a line without a byte order mark at its start
abbrev pub without_mark : List ℕ → List ℕ
without_mark line = if begins_with_mark line then drop (length MARK) line else line

-- the byte between texts
abbrev pub is_tab : ℕ → Bool
is_tab byte = byte == 9

-- the texts between tabs
abbrev pub between_tabs : List ℕ → List (List ℕ)
between_tabs line = slice_split is_tab line

-- those of a line
abbrev pub texts_of : List ℕ → List (List ℕ)
texts_of line = between_tabs (without_mark line)

-- a text is that of a number, which has no sum of 128 bits with that of its column
pub record IsPast (format : FormatData) (text : List ℕ) (column : ℕ) (sums : List (Option FixedPoint)) : Type 0 where
  pub number : FixedPoint
  pub sum : FixedPoint
  pub is : ParsesDecimal format text number
  pub column_sum : get_or sums column None ≡ Some sum
  pub past : ¬ (HasUnits (plus sum number))

-- what the text of a column does to sums: its number is added, or is past 128 bits with them
abbrev pub AddsText : FormatData → List ℕ → (column : ℕ) → (old new : List (Option FixedPoint)) → Result (Unit {0}) Unsummed → Type 0
AddsText format text column old new (Ok added) =
    (number : Option FixedPoint) × IsNumber format text number × (new ≡ with_number_at column number old)
AddsText format text column old new (Err TooLarge) = IsPast format text column old
AddsText format text column old new (Err (Failed kind)) = ⊤

-- the numbers of all texts of a line are added to sums
pub record AreAdded (format : FormatData) (texts : List (List ℕ)) (old new : List (Option FixedPoint)) : Type 0 where
  pub numbers : List (Option FixedPoint)
  pub are : AreNumbers format texts numbers
  pub count : length numbers ≡ length texts
  pub added : new ≡ with_numbers numbers old

-- after the numbers of the first texts of a line, the next one is past 128 bits
pub record IsPastAt (format : FormatData) (texts : List (List ℕ)) (sums : List (Option FixedPoint)) : Type 0 where
  pub column : ℕ
  pub mid : List (Option FixedPoint)
  pub text : List ℕ
  pub before : AreAdded format (take column texts) sums mid
  pub within : column < length texts
  pub here : get_or texts column text ≡ text
  pub past : IsPast format text column mid

-- what texts do to sums
abbrev pub AddsTexts : FormatData → List (List ℕ) → (old new : List (Option FixedPoint)) → Result (Unit {0}) Unsummed → Type 0
AddsTexts format texts old new (Ok added) = AreAdded format texts old new
AddsTexts format texts old new (Err TooLarge) = IsPastAt format texts old
AddsTexts format texts old new (Err (Failed kind)) = ⊤

-- the number of a text is returned, or there is none
abbrev pub ReadsNumber : FormatData → List ℕ → Result (Option FixedPoint) Unsummed → Type 0
ReadsNumber format text (Ok number) = IsNumber format text number
ReadsNumber format text (Err TooLarge) = ⊥
ReadsNumber format text (Err (Failed kind)) = ⊤

-- the bytes are those of a line, and a newline or NUL that ends it
abbrev pub IsLineOf : (bytes line : List ℕ) → Type 0
IsLineOf bytes line = (end : ℕ) × (bytes ≡ line ++ end ∷ []) × ((end ≡ 10) ⊎ (end ≡ 0))

-- what bytes do to sums: they are those of a line, whose numbers are added, or one is past 128 bits; or that failed
abbrev pub AddsLine : FormatData → List ℕ → (old new : List (Option FixedPoint)) → Option Unsummed → Type 0
AddsLine format bytes old new None = (line : List ℕ) × IsLineOf bytes line × AreAdded format (texts_of line) old new
AddsLine format bytes old new (Some TooLarge) = (line : List ℕ) × IsLineOf bytes line × IsPastAt format (texts_of line) old
AddsLine format bytes old new (Some (Failed kind)) = ⊤

-- a number is added to a sum, if there is one, or is past 128 bits with it
abbrev pub AddsNumber : (sum : Option FixedPoint) → (number : FixedPoint) → Result FixedPoint Unsummed → Type 0
AddsNumber sum number (Ok new) = Some new ≡ with_number sum (Some number)
AddsNumber sum number (Err TooLarge) = (old : FixedPoint) × (sum ≡ Some old) × ¬ (HasUnits (plus old number))
AddsNumber sum number (Err (Failed kind)) = ⊥
