-- The entry of a line, and why a line is refused.
use Rattle.std.specs.Prelude.{◌≡◌, ◌<◌, ℕ, ◌==◌, List, [], ◌∷◌, ◌++◌, length}
use Rattle.std.specs.List.{All, AllZip, after_first, before_first, position_or_len}
use Rattle.num_format.specs.Format.{FormatData}
use Rattle.num_format_decimal.specs.Marks.{MarksDecimals}
use Rattle.num_format_decimal.specs.Parsing.{IsAtScaleCause, ParsesAtScale}
use Rattle.uses_ledger.specs.declared.entry.TheConstants.{SCALE}
use Rattle.uses_ledger.specs.declared.entry.Entry.{Entry}
use Rattle.uses_ledger.specs.declared.entry.LedgerError.{LedgerError}
use Rattle.uses_ledger.specs.declared.entry.LedgerError.TheVariants.{AmbiguousFormat, Amount, NoMemory, NoTab}

-- what stands before the first tab of a line, which is the byte 9
abbrev pub name_in : List ℕ → List ℕ
name_in line = before_first (λ b. b == 9) line

-- what stands after the first tab of a line
abbrev pub amount_in : List ℕ → List ℕ
amount_in line = after_first (λ b. b == 9) line

-- a line has a tab, and is that of an entry: its name stands before the tab, and the text of its amount after it
pub record IsLineOf (f : FormatData) (line : List ℕ) (e : Entry) : Type 0 where
  pub tab : position_or_len (λ b. b == 9) line < length line
  pub name : e.name.now ≡ name_in line
  pub amount : ParsesAtScale f (amount_in line) SCALE e.amount

-- each amount has the scale of the ledger
abbrev pub IsOfOneScale : List Entry → Type 0
IsOfOneScale es = All (λ e. e.amount.scale ≡ SCALE) es

-- the line is refused with that error: it has no tab, or parsing refuses its amount for that cause
abbrev pub Refuses : FormatData → List ℕ → LedgerError → Type 0
Refuses f line NoTab = position_or_len (λ b. b == 9) line ≡ length line
Refuses f line (Amount e) = IsAtScaleCause f (amount_in line) SCALE e
Refuses f line _ = ⊥

-- a ledger of these lines is refused with that error: not every decimal reads back under the format; or a line is refused, and those
-- before it are of entries; or a line is of an entry too, for which there is no memory
pub data IsRefused (f : FormatData) (lines : List (List ℕ)) : LedgerError → Type 0 where
  ambiguous : ¬ MarksDecimals f → IsRefused f lines AmbiguousFormat
  at_line : (before after : List (List ℕ)) (line : List ℕ) (entries : List Entry) (e : LedgerError) → MarksDecimals f
      → lines ≡ before ++ line ∷ after →
      AllZip (IsLineOf f) before entries → Refuses f line e → IsRefused f lines e
  no_memory : (before after : List (List ℕ)) (line : List ℕ) (entries : List Entry) → MarksDecimals f → lines ≡ before ++ line ∷ after →
      AllZip (IsLineOf f) (before ++ line ∷ []) entries → IsRefused f lines NoMemory
