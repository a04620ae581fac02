-- The fields of a record, and what is at its end.
use Rattle.std.specs.Prelude.{ℕ, ◌+◌, ◌-◌, ◌==◌, nat_lt, Bool, true, not, ◌&&◌, if◌then◌else◌, List, length, slice_index}
use Rattle.std.specs.Prelude.{Option, None, Some}
use Rattle.regroup_core.specs.Records.{split_at}
use Rattle.regroup_core.specs.declared.dialect.Separation.{Separation}
use Rattle.regroup_core.specs.declared.dialect.Separation.TheVariants.{Delimited, Quoted, Blanks}
use Rattle.regroup_core.specs.declared.record.Within.TheVariants.{Start}

-- the byte between two fields
abbrev pub delimiter_of : Separation → ℕ
delimiter_of (Delimited delimiter) = delimiter
delimiter_of (Quoted delimiter) = delimiter
delimiter_of Blanks = 32

-- the delimiter of fields that may be in quotes, if they may
abbrev pub quotes_of : Separation → Option ℕ
quotes_of (Delimited delimiter) = None
quotes_of (Quoted delimiter) = Some delimiter
quotes_of Blanks = None

-- the parts of a text between delimiters outside quotes
abbrev pub parts_of : Separation → List ℕ → List (List ℕ)
parts_of separation text = split_at (quotes_of separation) (delimiter_of separation) Start text

-- whether a part is a field: between two spaces of a run there is none
abbrev pub is_field : Separation → List ℕ → Bool
is_field (Delimited delimiter) part = true
is_field (Quoted delimiter) part = true
is_field Blanks part = not (length part == 0)

-- the number of a part that so many fields are before: theirs if it is no field
abbrev pub number_of : Separation → (before : ℕ) → List ℕ → ℕ
number_of separation before part = if is_field separation part then before + 1 else before

-- how many bytes of a record are those of its fields: a carriage return before the line end is the line's
abbrev pub fields_len : List ℕ → ℕ
fields_len text =
    if nat_lt 0 (length text) && (slice_index text (length text - 1) == 13) then length text - 1 else length text
