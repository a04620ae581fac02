-- What becomes of a record: the texts of its chosen fields are converted, and all other bytes are copied.
use Rattle.std.specs.Prelude.{ℕ, ◌==◌, max, nat_le, Bool, true, ◌&&◌, is_some, if◌then◌else◌, List, [], ◌∷◌, ◌++◌}
use Rattle.std.specs.Prelude.{length, take, drop, Option, None, Some, Result, Ok, Err}
use Rattle.std.specs.List.{fold, join_with_byte, list_any}
use Rattle.std.specs.Option.{unwrap_or}
use Rattle.std.specs.Result.{result_map_both}
use Rattle.regroup_core.specs.Fields.{delimiter_of, fields_len, is_field, number_of, parts_of, quotes_of}
use Rattle.regroup_core.specs.Places.{content_of, replaced, trimmed}
use Rattle.regroup_core.specs.Records.{is_quote}
use Rattle.regroup_core.specs.declared.line.Cause.{Cause}
use Rattle.regroup_core.specs.declared.line.Cause.TheVariants.{Few, Quote, Refused}
use Rattle.regroup_core.specs.declared.plan.FieldRange.{FieldRange}
use Rattle.regroup_core.specs.declared.plan.Plan.{Plan}

-- whether a number is at most the last one of a range, which may have none
abbrev pub is_at_most : ℕ → Option ℕ → Bool
is_at_most n None = true
is_at_most n (Some last) = nat_le n last

-- whether a range has the field of this number
abbrev pub is_in : ℕ → FieldRange → Bool
is_in n range = nat_le range.first n && is_at_most n range.last

-- whether the field of this number is chosen: it is in a range
abbrev pub is_chosen : List FieldRange → ℕ → Bool
is_chosen list n = list_any (is_in n) list

-- whether one of this number or above may be
abbrev pub is_chosen_from : List FieldRange → ℕ → Bool
is_chosen_from list n = list_any (λ range. is_at_most n range.last) list

-- how many fields a record has to have: as many as the number of the last one of each range, or else of its first one
abbrev pub wanted : List FieldRange → ℕ
wanted list = fold (λ most range. max most (unwrap_or range.last range.first)) 0 list

-- a text with these bytes before it, or the cause in place of it
abbrev pub after : {E : Type 0} → List ℕ → Result (List ℕ) (Cause E) → Result (List ℕ) (Cause E)
after bytes text = result_map_both (λ t. bytes ++ t) (λ cause. cause) text

-- these bytes, if a record of so many fields has all that are wanted
abbrev pub enough : {E : Type 0} → Plan → (count : ℕ) → List ℕ → Result (List ℕ) (Cause E)
enough plan count bytes = if nat_le (wanted plan.list.now) count then Ok bytes else Err (Few count (wanted plan.list.now))

-- a text before others, or the first cause
abbrev pub with_first : {E : Type 0} → Result (List ℕ) (Cause E) → Result (List (List ℕ)) (Cause E) → Result (List (List ℕ)) (Cause E)
with_first (Err cause) texts = Err cause
with_first (Ok text) (Err cause) = Err cause
with_first (Ok text) (Ok texts) = Ok (text ∷ texts)

module _ {E : Type 0} (plan : Plan) (converted : List ℕ → Result (List ℕ) E) where
  -- what becomes of a chosen field of this number: its text is converted, and may have no quote where fields may be in quotes
  abbrev pub field_converted : ℕ → List ℕ → Result (List ℕ) (Cause E)
  field_converted number field =
      let text = trimmed (content_of plan.dialect.separation field) in
      if plan.copies_empty && (length text == 0) then Ok field else
      if is_some (quotes_of plan.dialect.separation) && list_any is_quote text then Err (Quote number) else
      result_map_both (replaced plan.dialect field) (Refused number) (converted text)

  -- what becomes of a part with this number: only a chosen field changes
  abbrev pub part_converted : ℕ → List ℕ → Result (List ℕ) (Cause E)
  part_converted number part =
      if is_field plan.dialect.separation part && is_chosen plan.list.now number then field_converted number part else Ok part

  -- what becomes of each part, of those that so many fields are before, or the first cause: where they end, fields may be missing
  abbrev pub parts_converted : (before : ℕ) → List (List ℕ) → Result (List (List ℕ)) (Cause E)
  parts_converted before [] = if nat_le (wanted plan.list.now) before then Ok [] else Err (Few before (wanted plan.list.now))
  parts_converted before (part ∷ parts) =
      let number = number_of plan.dialect.separation before part in
      with_first (part_converted number part) (parts_converted number parts)

  -- what becomes of a record
  abbrev pub line_of : List ℕ → Result (List ℕ) (Cause E)
  line_of text =
      let len = fields_len text in
      result_map_both (λ texts. join_with_byte (delimiter_of plan.dialect.separation) texts ++ drop len text) (λ cause. cause)
      (parts_converted 0 (parts_of plan.dialect.separation (take len text)))
