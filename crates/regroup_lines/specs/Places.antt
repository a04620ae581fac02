-- Where the number is in a text, and which fields of a line have one. A place is from the first of two numbers on and before the second.
use Rattle.std.specs.Prelude.{ℕ, ◌+◌, ◌-◌, max, min, if◌then◌else◌, nat_eq, nat_le, ◌==◌, not, Bool, false, true, ◌&&◌, List, [], ◌∷◌}
use Rattle.std.specs.Prelude.{drop, is_some, length, slice_range, take, Option, None, Some}
use Rattle.std.specs.Borrow.{Bor}
use Rattle.std.specs.Char.{is_ascii_whitespace}
use Rattle.std.specs.List.{ends_with, flat_map, fold, list_all, list_any, prefix_len, starts_with, suffix_len}
use Rattle.std.specs.Option.{unwrap_or}
use Rattle.std.specs.declared.ops.Range.{Range}
use Rattle.regroup_faults.specs.declared.fault.FieldCount.{FieldCount}
use Rattle.regroup_lines.specs.declared.rules.FieldRange.{FieldRange}
use Rattle.regroup_lines.specs.declared.rules.Output.{Output}

-- a place as clauses compare it
abbrev pub place_of : Range ℕ → ℕ × ℕ
place_of range = (range.start, range.end)

-- what is left of a place in a text without the ASCII whitespace at its ends
abbrev pub trimmed : List ℕ → ℕ × ℕ → ℕ × ℕ
trimmed text place =
    let start = place.0 + prefix_len is_ascii_whitespace (slice_range text place.0 place.1) in
    (start, place.1 - suffix_len is_ascii_whitespace (slice_range text start place.1))

-- whether these bytes are at the start or at the end of a text
abbrev pub is_at : (is_end : Bool) → (affix text : List ℕ) → Bool
is_at false affix text = starts_with nat_eq text affix
is_at true affix text = ends_with nat_eq text affix

-- a text without so many bytes at its start or at its end
abbrev pub without_bytes : (is_end : Bool) → (len : ℕ) → List ℕ → List ℕ
without_bytes false len text = drop len text
without_bytes true len text = take (length text - len) text

-- how many bytes the no-break space has that is there, U+00A0 or U+202F, or 0 if none is
abbrev pub no_break_space_len : (is_end : Bool) → List ℕ → ℕ
no_break_space_len is_end text =
    if is_at is_end (0xC2 ∷ 0xA0 ∷ []) text then 2 else if is_at is_end (0xE2 ∷ 0x80 ∷ 0xAF ∷ []) text then 3 else 0

-- how many bytes the first of these texts has that is there in a text, and the no-break space inside it, or 0 if none is
abbrev pub affix_len : (is_end : Bool) → List (Bor (List ℕ)) → List ℕ → ℕ
affix_len is_end [] text = 0
affix_len is_end (affix ∷ affixes) text =
    if is_at is_end affix.now text
    then length affix.now + no_break_space_len is_end (without_bytes is_end (length affix.now) text)
    else affix_len is_end affixes text

-- what is left of a place in a text without one of these texts at its start, one at its end, and the spaces inside them
abbrev pub stripped : List (Bor (List ℕ)) → List ℕ → ℕ × ℕ → ℕ × ℕ
stripped affixes text place =
    let start = place.0 + affix_len false affixes (slice_range text place.0 place.1) in
    trimmed text (start, place.1 - affix_len true affixes (slice_range text start place.1))

-- the same with the texts that may be around a number, if there are any
abbrev pub without_affixes : Option (Bor (List (Bor (List ℕ)))) → List ℕ → ℕ × ℕ → ℕ × ℕ
without_affixes None text place = place
without_affixes (Some affixes) text place = stripped affixes.now text place

-- one field
abbrev pub one_field : ℕ → FieldRange
one_field number = record { first = number; last = Some number }

-- whether a number is at most the last one of a range, which may have none
abbrev pub is_at_most : ℕ → Option ℕ → Bool
is_at_most n None = true
is_at_most n (Some last) = nat_le n last

-- how many fields a line has to have for a range: as many as the number of its last one, or else of its first one
abbrev pub wanted_of : FieldRange → ℕ
wanted_of range = unwrap_or range.last range.first

-- whether a line of so many fields has them
abbrev pub is_enough : ℕ → FieldRange → Bool
is_enough count range = nat_le (wanted_of range) count

-- whether a range has the field of this number
abbrev pub is_in : FieldRange → ℕ → Bool
is_in range n = nat_le range.first n && is_at_most n range.last

-- whether the field of this number is chosen: it is in a range
abbrev pub is_chosen : List FieldRange → ℕ → Bool
is_chosen list n = list_any (λ range. is_in range n) list

-- whether a field is counted: where runs of the delimiter separate fields, an empty one is not
abbrev pub is_counted : (blanks : Bool) → List ℕ → Bool
is_counted blanks field = not (blanks && (length field == 0))

-- the number of a field that so many counted ones are before: theirs if it is not counted
abbrev pub number_of : (blanks : Bool) → (before : ℕ) → List ℕ → ℕ
number_of blanks before field = if is_counted blanks field then before + 1 else before

-- whether a field of this number is chosen, which is counted then
abbrev pub is_chosen_field : List FieldRange → (blanks : Bool) → ℕ → List ℕ → Bool
is_chosen_field list blanks n field = is_chosen list n && is_counted blanks field

-- how many fields are counted up to the last of these, by how many are before them
abbrev pub count_after : (blanks : Bool) → (before : ℕ) → List (List ℕ) → ℕ
count_after blanks before fields = fold (number_of blanks) before fields

-- the fields that are in a range, with their numbers, of those that so many counted ones are before
abbrev pub numbered_in : FieldRange → (blanks : Bool) → (before : ℕ) → List (List ℕ) → List (ℕ × List ℕ)
numbered_in range blanks before [] = []
numbered_in range blanks before (field ∷ fields) =
    let n = number_of blanks before field in
    let later = numbered_in range blanks n fields in
    if is_in range n && is_counted blanks field then (n, field) ∷ later else later

-- the fields of a line that are in the ranges of a list, with their numbers: those of each range in turn
abbrev pub listed : List FieldRange → (blanks : Bool) → List (List ℕ) → List (ℕ × List ℕ)
listed list blanks fields = flat_map (λ range. numbered_in range blanks 0 fields) list

-- whether one of this number or above may be
abbrev pub is_chosen_from : List FieldRange → ℕ → Bool
is_chosen_from list n = list_any (λ range. is_at_most n range.last) list

-- the least number of a first field in ranges that reach a field, by that of other ranges and one range more
abbrev pub least_of : (from : ℕ) → Option ℕ → FieldRange → Option ℕ
least_of from next range = if is_at_most from range.last then Some (min (unwrap_or next range.first) range.first) else next

-- no field from one number on and before that one is written in another way than it was read, nor any from there on if it is none: where
-- there is an output, each may be
abbrev pub next_of : Option Output → List FieldRange → (from : ℕ) → Option ℕ
next_of output list from = if is_some output then Some 0 else fold (least_of from) None list

-- whether a line of so many fields has all that are wanted of it
abbrev pub are_enough : List FieldRange → ℕ → Bool
are_enough list count = list_all (is_enough count) list

-- how many fields a line has to have
abbrev pub wanted : List FieldRange → ℕ
wanted list = fold (λ most range. max most (wanted_of range)) 0 list

-- what is counted of a line of so many fields, with this byte between two
abbrev pub field_count : (delimiter : ℕ) → List FieldRange → ℕ → FieldCount
field_count delimiter list found = record { found = found; wanted = wanted list; delimiter = delimiter }
