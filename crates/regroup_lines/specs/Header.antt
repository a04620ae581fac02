-- The header of an input, and the fields that have names in it.
use Rattle.std.specs.Prelude.{ℕ, ◌<◌, Bool, ◌&&◌, if◌then◌else◌, List, [], ◌∷◌, ◌++◌, length, drop, slice_range, bytes_eq}
use Rattle.std.specs.Prelude.{Option, Result, Ok, Err}
use Rattle.std.specs.Io.KnownBytes.{IsAtEnd}
use Rattle.regroup_lines.specs.Csv.{doubled, is_quoted, number_place}
use Rattle.regroup_lines.specs.Input.{HasNoEnd, IsRecord, Reads}
use Rattle.regroup_lines.specs.Lines.{MARK, begins_with_mark, fields_of, quotes_in}
use Rattle.regroup_lines.specs.Places.{is_counted, number_of, trimmed}
use Rattle.regroup_lines.specs.declared.header.NameFault.{NameFault}
use Rattle.regroup_lines.specs.declared.header.NameFault.TheVariants as fault
use Rattle.regroup_lines.specs.declared.records.CsvState.TheVariants.{Mark}
use Rattle.regroup_lines.specs.declared.rules.Fields.{Fields}
use Rattle.regroup_lines.specs.declared.rules.Rules.{Rules}

-- a text without a byte order mark at its start
abbrev pub unmarked : List ℕ → List ℕ
unmarked text = if begins_with_mark text then drop (length MARK) text else text

-- a text is the first line or record of the bytes that a reader has, without a byte order mark: what ends it follows, or the bytes end, or
-- it is too long, and these bytes are its first ones
pub data IsHeader (rules : Rules) (read_old : Option (List ℕ)) : List ℕ → Type 0 where
  ended : (text left : List ℕ) (read_new : Option (List ℕ)) → Reads [] (text ++ rules.line_end ∷ left) read_old read_new →
      IsRecord (quotes_in rules.span) rules.line_end Mark text → IsHeader rules read_old (unmarked text)
  last : (text : List ℕ) (read_new : Option (List ℕ)) → Reads [] text read_old read_new →
      HasNoEnd (quotes_in rules.span) rules.line_end Mark text → IsAtEnd read_new → IsHeader rules read_old (unmarked text)
  long : (text : List ℕ) (read_new : Option (List ℕ)) → Reads [] text read_old read_new →
      HasNoEnd (quotes_in rules.span) rules.line_end Mark text → rules.max_line_len < length text → IsHeader rules read_old (unmarked text)

-- why a name is not that of one field
pub data Misnamed : Type 0 where
  Unknown : List ℕ → Misnamed
  Doubled : List ℕ → Misnamed

-- the `Misnamed` of a `NameFault`
abbrev pub misnamed_of : NameFault → Misnamed
misnamed_of (fault.Unknown name) = Unknown name.now
misnamed_of (fault.Doubled name) = Doubled name.now

-- whether a field is counted and has this name: its text without the ASCII whitespace around it, and in quotes without these and with each
-- quote doubled
abbrev pub is_named : Fields → (name field : List ℕ) → Bool
is_named cs name field =
    let place = number_place cs.quotes field in
    let is_in_quotes = cs.quotes && is_quoted field (trimmed field (0, length field)) in
    is_counted cs.blanks field
    && bytes_eq (slice_range field place.0 place.1) (if is_in_quotes then doubled name else name)

-- the numbers of the fields that have the name, of those that so many counted ones are before
abbrev pub named_after : Fields → (name : List ℕ) → (before : ℕ) → List (List ℕ) → List ℕ
named_after cs name before [] = []
named_after cs name before (field ∷ fields) =
    let n = number_of cs.blanks before field in
    let later = named_after cs name n fields in
    if is_named cs name field then n ∷ later else later

-- the one number that there is
abbrev pub only_one : (name : List ℕ) → List ℕ → Result ℕ Misnamed
only_one name [] = Err (Unknown name)
only_one name (number ∷ []) = Ok number
only_one name (number ∷ other ∷ more) = Err (Doubled name)

-- the number of the field that has the name in a header
abbrev pub number_named : Fields → (header name : List ℕ) → Result ℕ Misnamed
number_named fields header name = only_one name (named_after fields name 0 (fields_of fields header))
