-- What is read from the input, piece by piece.
use Rattle.std.specs.Prelude.{◌≡◌, ℕ, ◌+◌, ◌<◌, ◌≤◌, Bool, true, false, List, [], ◌∷◌, ◌++◌, length, slice_range, Option, None, Some}
use Rattle.std.specs.Prelude.{Result, Ok, Err, ⊤, ◌^◌, ◌-◌}
use Rattle.std.specs.Io.KnownBytes.{Consumes, IsAtEnd}
use Rattle.std.specs.declared.ops.Range.{Range}
use Rattle.regroup_lines.specs.Ended.{ended_by, ended_once}
use Rattle.regroup_faults.specs.Fault.{Fault}
use Rattle.regroup_faults.specs.Fault.Fault.{Flush, Read, TooMany}
use Rattle.regroup_lines.specs.Lines.{Stop, quotes_in}
use Rattle.regroup_lines.specs.Lines.Stop.{Ended, Endless, Failed, Unflushed, Unread}
use Rattle.regroup_lines.specs.Records.{after_text, has_end, is_inside, record_start}
use Rattle.regroup_lines.specs.declared.input.Input.{Input}
use Rattle.regroup_lines.specs.declared.input.InputPiece.{InputPiece}
use Rattle.regroup_lines.specs.declared.input.Record.{Record}
use Rattle.regroup_lines.specs.declared.input.InputPiece.TheVariants.{Line, Rest, TooLong}
use Rattle.regroup_lines.specs.declared.records.CsvState.{CsvState}
use Rattle.regroup_lines.specs.declared.rules.Rules.{Rules}

-- the bytes that are held
abbrev pub held : Input → List ℕ
held input = slice_range input.array.now input.start input.end

-- the bytes at a place of the array
abbrev pub bytes_at : Input → Range ℕ → List ℕ
bytes_at input place = slice_range input.array.now place.start place.end

-- how many bytes the array has: one more than a line may have
abbrev pub array_len : Input → ℕ
array_len input = length input.array.now

-- no byte ends a record
abbrev pub HasNoEnd : (quotes : Option ℕ) → (line_end : ℕ) → CsvState → List ℕ → Type 0
HasNoEnd quotes line_end within bytes = has_end quotes line_end within bytes ≡ false

-- bytes that end outside quotes, and before which no record ends
abbrev pub IsRecord : (quotes : Option ℕ) → (line_end : ℕ) → CsvState → List ℕ → Type 0
IsRecord quotes line_end within bytes = HasNoEnd quotes line_end within bytes × (is_inside (after_text quotes within bytes) ≡ false)

-- the bytes that were held, and those that the reader gave, are these
pub record Reads (held read : List ℕ) (old new : Option (List ℕ)) : Type 0 where
  pub given : List ℕ
  pub joined : held ++ given ≡ read
  pub consumed : Consumes old new given

-- the piece is the first of the bytes that were held and those that the reader gave
abbrev pub FindsPiece : (quotes : Option ℕ) → (line_end : ℕ) → CsvState → List ℕ → Input → Option (List ℕ) → Option (List ℕ)
    → InputPiece → Type 0
FindsPiece quotes line_end within before input old new (Line place) =
    Reads before (bytes_at input place ++ line_end ∷ held input) old new × IsRecord quotes line_end within (bytes_at input place)
    × (length (bytes_at input place) < array_len input)
FindsPiece quotes line_end within before input old new (Rest place) =
    Reads before (bytes_at input place) old new × HasNoEnd quotes line_end within (bytes_at input place)
    × (length (bytes_at input place) < array_len input) × IsAtEnd new
FindsPiece quotes line_end within before input old new TooLong =
    Reads before (held input) old new × HasNoEnd quotes line_end within (held input) × (array_len input ≤ length (held input))

-- a place is in the array, and after it the byte that ends a line
abbrev pub IsEndedAt : (line_end : ℕ) → Input → Range ℕ → Type 0
IsEndedAt line_end input place =
    (place.start ≤ place.end) × (place.end < array_len input) × (slice_range input.array.now place.start (place.end + 1)
    ≡ ended_by line_end (bytes_at input place))

-- so is that of the piece
abbrev pub IsInArray : (line_end : ℕ) → Input → InputPiece → Type 0
IsInArray line_end input (Line place) = IsEndedAt line_end input place
IsInArray line_end input (Rest place) = IsEndedAt line_end input place
IsInArray line_end input TooLong = ⊤

-- a record has the byte that ends it
abbrev pub IsEnded : (line_end : ℕ) → Record → Type 0
IsEnded line_end r = r.ended.now ≡ ended_by line_end r.text.now

-- no byte is held and the reader ends, or there is a byte
abbrev pub EndsOrGoesOn : List ℕ → Option (List ℕ) → Option (List ℕ) → Bool → Type 0
EndsOrGoesOn held old new true = Reads held [] old new × IsAtEnd new
EndsOrGoesOn held old new false = (text : List ℕ) × Reads held text old new × (0 < length text)

-- bytes of a record that is too long, and begins in the line of this number, without the byte that ends it
pub record IsLong (rules : Rules) (number : ℕ) (text : List ℕ) : Type 0 where
  pub no_end : HasNoEnd (quotes_in rules.span) rules.line_end (record_start number) text
  pub long : rules.max_line_len < length text

-- what is known where a reader stopped so, which gave these bytes and others before them
abbrev pub IsStop : (flushes : Bool) → Stop → (given : List ℕ) → (left : Option (List ℕ)) → Type 0
IsStop flushes Ended given left = IsAtEnd left
IsStop flushes Unflushed given left = flushes ≡ true
IsStop flushes Endless given left = 2 ^ 64 - 1 ≤ length given
IsStop flushes stop given left = ⊤

-- what is sent of such a record where the reader stopped so in it: at the end of the input the byte that ends it too, if it is not the last
-- one
abbrev pub stop_text : (line_end : ℕ) → Stop → List ℕ → List ℕ
stop_text line_end Ended text = ended_once line_end false text
stop_text line_end stop text = text

-- what is returned there: that the input ended, or why no more was read
abbrev pub stop_result : Stop → Option (Result Bool Fault)
stop_result Ended = Some (Ok true)
stop_result Failed = Some (Err Read)
stop_result Unflushed = Some (Err Flush)
stop_result Endless = Some (Err TooMany)
stop_result Unread = None
