-- The ranges of fields that a list names.
use Rattle.std.specs.Prelude.{ℕ, ◌^◌, ◌==◌, nat_le, nat_lt, Bool, not, ◌&&◌, if◌then◌else◌, List, [], ◌∷◌, length, Option, None, Some}
use Rattle.std.specs.Char.{is_ascii_digit}
use Rattle.std.specs.List.{after_first, before_first, filter, list_all, list_any, position_or_len, slice_split}
use Rattle.std.specs.Option.{option_map}
use Rattle.std.specs.Str.Parse.{digits_value}
use Rattle.regroup_lines.specs.Places.{one_field}
use Rattle.regroup_lines.specs.declared.rules.FieldRange.{FieldRange}

-- the number, if it is one of a field: they are counted from 1, and a `u64` holds them
abbrev pub counted : ℕ → Option ℕ
counted number = if nat_lt 0 number && nat_lt number (2 ^ 64) then Some number else None

-- the number of a field that decimal digits write
abbrev pub field_number : List ℕ → Option ℕ
field_number text = if list_all is_ascii_digit text then counted (digits_value 10 text) else None

-- the fields from one number to another, if they do not decrease
abbrev pub range_from_to : Option ℕ → Option ℕ → Option FieldRange
range_from_to (Some first) (Some last) = if nat_le first last then Some (record { first = first; last = Some last }) else None
range_from_to _ _ = None

-- the fields that the texts before and after a `-` name: from the first field on where there is no text before it, and to the last one
-- where there is none after it
abbrev pub range_between : (before after : List ℕ) → Option FieldRange
range_between [] [] = None
range_between [] (b ∷ after) = range_from_to (Some 1) (field_number (b ∷ after))
range_between (b ∷ before) [] = option_map (λ first. record { first = first; last = None }) (field_number (b ∷ before))
range_between (b ∷ before) (c ∷ after) = range_from_to (field_number (b ∷ before)) (field_number (c ∷ after))

-- whether a byte is `-`
abbrev pub is_dash : ℕ → Bool
is_dash b = b == 45

-- the fields that a part of a list names: `N`, which is `N-N`, `N-M`, `N-` or `-M`
unfoldable pub range_in : List ℕ → Option FieldRange
range_in text =
    if nat_lt (position_or_len is_dash text) (length text) then range_between (before_first is_dash text)
    (after_first is_dash text) else range_between text text

-- whether a part of a list is a name: it has a byte that is no digit and no `-`
abbrev pub is_name : List ℕ → Bool
is_name text = list_any (λ b. not (is_ascii_digit b) && not (is_dash b)) text

-- a range before others, if each is one
abbrev pub with_range : Option FieldRange → Option (List FieldRange) → Option (List FieldRange)
with_range None ranges = None
with_range (Some range) None = None
with_range (Some range) (Some ranges) = Some (range ∷ ranges)

-- the range in place of a name: no field is in it, since they are counted from 1
abbrev pub NAMED : FieldRange
NAMED = one_field 0

-- the range of a part, which may be a name
abbrev pub part_range : List ℕ → Option FieldRange
part_range part = if is_name part then Some NAMED else range_in part

-- those of parts, if each has one
abbrev pub ranges_in : List (List ℕ) → Option (List FieldRange)
ranges_in [] = Some []
ranges_in (part ∷ parts) = with_range (part_range part) (ranges_in parts)

-- the parts of a list, which commas are between
abbrev pub parts_of : List ℕ → List (List ℕ)
parts_of text = slice_split (λ b. b == 44) text

-- the ranges and the names that a list has, if each of its parts is one
abbrev pub list_read : List ℕ → Option (List FieldRange × List (List ℕ))
list_read text = option_map (λ ranges. (ranges, filter is_name (parts_of text))) (ranges_in (parts_of text))
