-- Where lines, records of RFC 4180 and their fields end. A byte inside quotes ends none.
use Rattle.std.specs.Prelude.{◌≡◌, ℕ, ◌+◌, ◌-◌, ◌^◌, ◌≤◌, ◌==◌, length, min, take, Bool, false, true, ◌&&◌, ◌||◌, not, if◌then◌else◌, List}
use Rattle.std.specs.Prelude.{[], ◌∷◌, Option, None, Some}
use Rattle.std.specs.List.{count_by, fold, onto_first}
use Rattle.regroup_lines.specs.declared.records.CsvState.{CsvState}
use Rattle.regroup_lines.specs.declared.records.CsvState.TheVariants.{Mark, Mark1, Mark2, Start, Bare, Quoted}

-- whether a byte is a quote
abbrev pub is_quote : ℕ → Bool
is_quote b = b == 34

-- whether the next byte is inside quotes
abbrev pub is_inside : CsvState → Bool
is_inside Quoted = true
is_inside within = false

-- what follows a byte outside quotes that opens none, by what follows it unless it is a delimiter
abbrev pub after_bare : (delimiter : ℕ) → (other : CsvState) → ℕ → CsvState
after_bare delimiter other b = if b == delimiter then Start else other

-- what follows a byte, by the delimiter of the fields that may be in quotes, if they may: a quote opens quotes as the first byte of a field
-- and, as the second of two, again after one that closes them; a field begins after a byte order mark too
abbrev pub after_byte : (quotes : Option ℕ) → CsvState → ℕ → CsvState
after_byte None within b = within
after_byte (Some delimiter) Mark b = if is_quote b then Quoted else after_bare delimiter (if b == 239 then Mark1 else Bare) b
after_byte (Some delimiter) Mark1 b = after_bare delimiter (if b == 187 then Mark2 else Bare) b
after_byte (Some delimiter) Mark2 b = after_bare delimiter (if b == 191 then Start else Bare) b
after_byte (Some delimiter) Start b = if is_quote b then Quoted else after_bare delimiter Bare b
after_byte (Some delimiter) Bare b = after_bare delimiter Bare b
after_byte (Some delimiter) Quoted b = if is_quote b then Start else Quoted

-- where the first byte of a record is, by the number of its line: an input may begin with a byte order mark
abbrev pub record_start : ℕ → CsvState
record_start number = if number == 1 then Mark else Start

-- what follows a text
abbrev pub after_text : (quotes : Option ℕ) → CsvState → List ℕ → CsvState
after_text quotes within text = fold (after_byte quotes) within text

-- the parts of a text between bytes of this value that are not inside quotes
abbrev pub split_at : (quotes : Option ℕ) → (end : ℕ) → CsvState → List ℕ → List (List ℕ)
split_at quotes end within [] = [] ∷ []
split_at quotes end within (b ∷ text) =
    if (b == end) && not (is_inside within) then [] ∷ split_at quotes end Start text else onto_first b
    (split_at quotes end (after_byte quotes within b) text)

-- whether there is such a byte
abbrev pub has_end : (quotes : Option ℕ) → (end : ℕ) → CsvState → List ℕ → Bool
has_end quotes end within [] = false
has_end quotes end within (b ∷ text) = ((b == end) && not (is_inside within)) || has_end quotes end (after_byte quotes within b) text

-- the first n bytes of a text, none of which ends a part, and where the byte after them is
pub record Searched (quotes : Option ℕ) (end : ℕ) (within : CsvState) (text : List ℕ) (n : ℕ) (here : CsvState) : Type 0 where
  pub inside : n ≤ length text
  pub none : has_end quotes end within (take n text) ≡ false
  pub there : here ≡ after_text quotes within (take n text)

-- what follows a byte of several records
abbrev pub after_record_byte : (quotes : Option ℕ) → (end : ℕ) → CsvState → ℕ → CsvState
after_record_byte quotes end within b = if (b == end) && not (is_inside within) then Start else after_byte quotes within b

-- whether the records of an input end inside quotes
abbrev pub is_left_open : (quotes : Option ℕ) → (end : ℕ) → List ℕ → Bool
is_left_open quotes end text = is_inside (fold (after_record_byte quotes end) Mark text)

-- whether one record does, which begins in the line of this number
abbrev pub is_open : (quotes : Option ℕ) → (number : ℕ) → List ℕ → Bool
is_open quotes number text = is_inside (after_text quotes (record_start number) text)

-- how many lines end inside a part of a record
abbrev pub lines_ended : (quotes : Option ℕ) → (line_end : ℕ) → List ℕ → ℕ
lines_ended None line_end text = 0
lines_ended (Some delimiter) line_end text = count_by (λ b. b == line_end) text

-- the number of the line in which a part of a record ends, by that of the line in which it begins: the numbers stop at the highest of a
-- `u64`
abbrev pub line_reached : (quotes : Option ℕ) → (line_end : ℕ) → ℕ → List ℕ → ℕ
line_reached quotes line_end number text = min (number + lines_ended quotes line_end text) (2 ^ 64 - 1)

-- the number of the next line
abbrev pub next_line : ℕ → ℕ
next_line number = min (number + 1) (2 ^ 64 - 1)
