-- The number in a field, which may be in quotes.
use Rattle.std.specs.Prelude.{ℕ, ◌+◌, ◌-◌, ◌==◌, nat_le, Bool, true, false, ◌&&◌, ◌||◌, cond, not, is_some, if◌then◌else◌, List, [], ◌∷◌}
use Rattle.std.specs.Prelude.{◌++◌, length, slice_range, take, drop, Option, None, Some}
use Rattle.std.specs.List.{flat_map, list_any, slice_index}
use Rattle.std.specs.Option.{option_map, unwrap_or}
use Rattle.regroup_lines.specs.Ended.{len_without, without_end}
use Rattle.regroup_lines.specs.Places.{trimmed}
use Rattle.regroup_lines.specs.Records.{is_quote}
use Rattle.regroup_lines.specs.declared.rules.Fields.{Fields}
use Rattle.regroup_lines.specs.declared.rules.Output.{Output}
use Rattle.regroup_lines.specs.declared.rules.Quoting.{Quoting}
use Rattle.regroup_lines.specs.declared.rules.Quoting.TheVariants.{Bare, Keep, Necessary}
use Rattle.regroup_lines.specs.declared.line_text.TextPart.{TextPart}
use Rattle.regroup_lines.specs.declared.line_text.TextPart.TheVariants.{Doubled, Plain}

-- whether a field begins with a quote, and has one at the end of this place
abbrev pub is_quoted : List ℕ → ℕ × ℕ → Bool
is_quoted field place =
    (place.0 == 0) && (nat_le 2 place.1 && (is_quote (slice_index field 0) && is_quote (slice_index field (place.1 - 1))))

-- where the number is in a field, with what may be before and after it: between the quotes, if there may be quotes, and without the ASCII
-- whitespace around it
abbrev pub number_place : (quotes : Bool) → List ℕ → ℕ × ℕ
number_place quotes field =
    let place = trimmed field (0, length field) in
    if quotes && is_quoted field place then trimmed field (1, place.1 - 1) else place

-- whether no number has this byte where there may be quotes
abbrev pub is_barred : (line_end : ℕ) → ℕ → Bool
is_barred line_end b = is_quote b || (b == line_end)

-- a text with each quote doubled
abbrev pub doubled : List ℕ → List ℕ
doubled text = flat_map (λ b. if is_quote b then b ∷ b ∷ [] else b ∷ []) text

-- whether a field with this byte has to be in quotes
abbrev pub needs_quotes : (delimiter line_end : ℕ) → ℕ → Bool
needs_quotes delimiter line_end b = is_quote b || (b == 13 || (b == 10 || (b == delimiter || b == line_end)))

-- whether a field that was in quotes is written in quotes
abbrev pub keeps : Quoting → Bool
keeps Keep = true
keeps Necessary = false
keeps Bare = false

-- whether of a field its number alone is written
abbrev pub is_bare : Quoting → Bool
is_bare Keep = false
is_bare Necessary = false
is_bare Bare = true

-- whether a field begins with a quote
abbrev pub is_opened : List ℕ → Bool
is_opened [] = false
is_opened (b ∷ field) = is_quote b

-- how many bytes are before the quote that closes a field, of those after the one that opens it: a quote before another one closes none
abbrev pub quoted_len : List ℕ → ℕ
quoted_len [] = 0
quoted_len (b ∷ []) = if is_quote b then 0 else 1
quoted_len (b ∷ c ∷ text) = if is_quote b then if is_quote c then 2 + quoted_len text else 0 else 1 + quoted_len (c ∷ text)

-- a part of a text as it is sent
abbrev pub part_text : TextPart → List ℕ
part_text (Plain bytes) = bytes.now
part_text (Doubled bytes) = doubled bytes.now

-- a text of a field with what is around it but for the quote that opens it, if one does: in quotes if it has to be, or if it was and an
-- output keeps these, and each quote is doubled, as those are that were in quotes; a last carriage return may end the line
abbrev pub around_as : Output → (line_end : ℕ) → (is_quoted : Bool) → (before after : List ℕ) → List ℕ → List ℕ
around_as output line_end is_quoted before after text =
    let inner = without_end 13 after in
    let quoted = if is_quoted then take (quoted_len inner) inner else [] in
    let bare = if is_quoted then drop (quoted_len inner + 1) inner else inner in
    let is_enclosed = (is_quoted && keeps output.quoting) || list_any (list_any (needs_quotes output.delimiter line_end))
    (before ∷ text ∷ quoted ∷ bare ∷ []) in
    let quote = if is_enclosed then 34 ∷ [] else [] in
    quote ++ (doubled before ++ (doubled text ++ (quoted ++ (doubled bare ++ (quote ++ drop (len_without 13 after) after)))))

-- a text of a field as an output has it: alone, or with what is around it
abbrev pub output_as : Output → (line_end : ℕ) → (is_quoted : Bool) → (before after : List ℕ) → List ℕ → List ℕ
output_as output line_end is_quoted before after text =
    if is_bare output.quoting then text else around_as output line_end is_quoted before after text

-- how a field with this text is written, if it is written anew: as the output says, or in the quotes that the text needs and the field has
-- not
abbrev pub output_of : Fields → (line_end : ℕ) → (is_quoted : Bool) → List ℕ → Option Output
output_of fields line_end is_quoted text =
    if not (is_some fields.output) && (fields.quotes && (not is_quoted && list_any (needs_quotes fields.delimiter line_end) text))
    then Some (record { delimiter = fields.delimiter; quoting = Necessary }) else fields.output

-- a field with a text at a place in it, by how it is written: else the bytes around that place are passed on
abbrev pub placed_as : Option Output → (line_end : ℕ) → (is_quoted : Bool) → (field : List ℕ) → ℕ × ℕ → List ℕ → List ℕ
placed_as (Some output) line_end is_quoted field place text = output_as output line_end is_quoted
    (slice_range field (cond is_quoted 1 0) place.0) (drop place.1 field) text
placed_as None line_end is_quoted field place text = take place.0 field
    ++ ((if is_quoted then doubled text else text) ++ drop place.1 field)

abbrev pub placed : Fields → (line_end : ℕ) → (is_quoted : Bool) → (field : List ℕ) → ℕ × ℕ → List ℕ → List ℕ
placed fields line_end is_quoted field place text = placed_as (output_of fields line_end is_quoted text) line_end is_quoted field place text

-- a field without a number by how the fields are written
abbrev pub passed_as : Option Output → (quotes : Bool) → (line_end : ℕ) → (field : List ℕ) → List ℕ
passed_as None quotes line_end field = field
passed_as (Some output) quotes line_end field =
    let is_quoted = quotes && is_opened field in
    output_as output line_end is_quoted [] (drop (cond is_quoted 1 0) field) []

-- a field with this text at the place of the number, if there is one
abbrev pub field_with : Fields → (line_end : ℕ) → (field : List ℕ) → Option ((ℕ × ℕ) × List ℕ) → List ℕ
field_with fields line_end field None = passed_as fields.output fields.quotes line_end field
field_with fields line_end field (Some number) =
    placed fields line_end (fields.quotes && is_quoted field (trimmed field (0, length field))) field number.0 number.1

-- the byte between two fields that are written
abbrev pub output_delimiter : Fields → ℕ
output_delimiter fields = unwrap_or (option_map (λ output. output.delimiter) fields.output) fields.delimiter
