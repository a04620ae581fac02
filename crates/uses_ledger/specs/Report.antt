-- A ledger printed in columns, with its total.
use Rattle.std.specs.Prelude.{ℕ, ◌-◌, max, ℤ, pos, ◌+ℤ◌, List, ◌++◌, length, replicate, take, codes, ⊤}
use Rattle.std.specs.List.{flat_map, fold}
use Rattle.std.specs.Str.{chars}
use Rattle.num_format.specs.Format.{FormatData}
use Rattle.num_format_decimal.specs.FixedPoint.{FixedPoint, fixed_point}
use Rattle.num_format_decimal.specs.Text.{decimal_text}
use Rattle.num_format_decimal.specs.Values.{HasUnits, plus}
use Rattle.uses_ledger.specs.declared.entry.TheConstants.{SCALE}
use Rattle.uses_ledger.specs.declared.entry.Entry.{Entry}
use Rattle.uses_ledger.specs.declared.entry.LedgerError.{LedgerError}
use Rattle.uses_ledger.specs.declared.entry.LedgerError.TheVariants.{Output, TotalTooLarge}
use Rattle.uses_ledger.specs.declared.report.Widths.{Widths}

-- the sum of the amounts, from zero at the scale of the ledger on
abbrev pub sum_of : List Entry → FixedPoint
sum_of es = fold (λ sum e. plus sum e.amount) (fixed_point (pos 0) SCALE) es

-- the sum of the units of the amounts
abbrev pub units_of : List Entry → ℤ
units_of es = fold (λ sum e. sum +ℤ e.amount.units) (pos 0) es

-- the first entries, or all, have a sum whose units are no `i128`
abbrev pub HasLargeSum : List Entry → Type 0
HasLargeSum es = (k : ℕ) × ¬ (HasUnits (sum_of (take k es)))

-- why a ledger is not printed: a sum is too large, or an output failed
abbrev pub Fails : List Entry → LedgerError → Type 0
Fails es TotalTooLarge = HasLargeSum es
Fails es (Output e) = ⊤
Fails es _ = ⊥

-- the width of a text, in characters
abbrev pub width : List ℕ → ℕ
width text = length (chars text)

-- the width of the widest of such texts of entries, or 0
abbrev pub widest : (Entry → List ℕ) → List Entry → ℕ
widest text es = fold (λ most e. max most (width (text e))) 0 es

-- the width of each column: as wide as its widest text, in the line of an entry or in that of the total
abbrev pub widths_of : FormatData → List Entry → Widths
widths_of f es = record {
  name = max (widest (λ e. e.name.now) es) (width (codes "total"));
  amount = max (widest (λ e. decimal_text f e.amount) es) (width (decimal_text f (sum_of es)));
}

-- as many spaces as a text has fewer characters than the width
abbrev pub spaces : (column : ℕ) → List ℕ → List ℕ
spaces column text = replicate (column - width text) 32

-- a text on the left of a column
abbrev pub on_left : (column : ℕ) → List ℕ → List ℕ
on_left column text = text ++ spaces column text

-- a text on the right of a column
abbrev pub on_right : (column : ℕ) → List ℕ → List ℕ
on_right column text = spaces column text ++ text

-- a line: a name on the left of its column, two spaces, the text of an amount on the right of its column, and a newline
abbrev pub line_of : FormatData → Widths → List ℕ → FixedPoint → List ℕ
line_of f widths name amount =
    on_left widths.name name ++ (codes "  " ++ (on_right widths.amount (decimal_text f amount) ++ codes "\n"))

-- the line of an entry
abbrev pub entry_line : FormatData → Widths → Entry → List ℕ
entry_line f widths e = line_of f widths e.name.now e.amount

-- the lines of all entries, and the line of the total
abbrev pub lines_of : FormatData → Widths → List Entry → (sum : FixedPoint) → List ℕ
lines_of f widths es sum = flat_map (entry_line f widths) es ++ line_of f widths (codes "total") sum

-- the report of a ledger: its lines, in columns as wide as their widest text
abbrev pub report_of : FormatData → List Entry → List ℕ
report_of f es = lines_of f (widths_of f es) es (sum_of es)
