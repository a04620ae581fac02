-- What regrouping the lines of an input writes and returns.
use Rattle.std.specs.Prelude.{ℕ, ◌+◌, ◌==◌, nat_eq, nat_le, nat_lt, Bool, false, true, ◌&&◌, not, if◌then◌else◌}
use Rattle.std.specs.Prelude.{List, [], ◌∷◌, ◌++◌, length, map, take, drop, slice_range, Option, None, Some, Result, Ok, Err}
use Rattle.std.specs.List.{join_with_byte, list_any, starts_with}
use Rattle.std.specs.Option.{ok_or, option_map}
use Rattle.std.specs.Result.{result_map_both}
use Rattle.std.specs.Str.{is_utf8}
use Rattle.num_format.specs.Cut.{cut_text}
use Rattle.regroup_faults.specs.Notation.{NotationData, decimal_in, number_text}
use Rattle.num_format.specs.Refusal.{ParseNumber}
use Rattle.num_format_decimal.specs.FixedPoint.{FixedPoint}
use Rattle.regroup_lines.specs.Ended.{ended_by, ended_once}
use Rattle.regroup_lines.specs.Csv.{field_with, is_barred, number_place, output_delimiter}
use Rattle.regroup_faults.specs.Fault.{Fault, in_field}
use Rattle.regroup_faults.specs.Fault.Fault.{TooMany, TooLong, FewFields, Flush, Read, NotText, Line, Unclosed}
use Rattle.regroup_lines.specs.LineFaults.{text_fault}
use Rattle.regroup_lines.specs.Places.{are_enough, count_after, field_count, is_chosen_field, listed, number_of, trimmed, without_affixes}
use Rattle.regroup_lines.specs.Records.{is_open, is_quote, line_reached, next_line, record_start, split_at}
use Rattle.regroup_lines.specs.declared.records.CsvState.TheVariants.{Start}
use Rattle.regroup_lines.specs.declared.rules.FieldRange.{FieldRange}
use Rattle.regroup_lines.specs.declared.rules.Fields.{Fields}
use Rattle.regroup_lines.specs.declared.rules.Invalid.{Invalid}
use Rattle.regroup_lines.specs.declared.rules.Invalid.TheVariants.{Abort, Fail, Warn, Ignore}
use Rattle.regroup_faults.specs.declared.Reading.{Reading}
use Rattle.regroup_faults.specs.declared.Parsing.TheVariants.{Lenient}
use Rattle.regroup_faults.specs.Reading.{read_by}
use Rattle.regroup_lines.specs.declared.rules.Rules.{Rules}
use Rattle.regroup_lines.specs.declared.rules.Span.{Span}
use Rattle.regroup_lines.specs.declared.rules.Span.TheVariants as span

-- how a reader stopped: at its end, by a failed read, by a flush that failed before a read, or not at all, where no more was read, or no
-- more of a line that is too long and is passed on, since 2^64 - 1 bytes were
pub data Stop : Type 0 where
  Ended : Stop
  Failed : Stop
  Unflushed : Stop
  Unread : Stop
  Endless : Stop

-- what is sent of lines: bytes to the output, the faults that messages name, and bytes to the writer of rejected lines
pub record Sent : Type 0 where
  pub written : List ℕ
  pub named : List Fault
  pub rejected : List ℕ

-- bytes of the output alone
abbrev pub only_written : List ℕ → Sent
only_written bytes = record { written = bytes; named = []; rejected = [] }

-- what is sent of some lines, and of those after them
abbrev pub joined : Sent → Sent → Sent
joined first rest = record {
  written = first.written ++ rest.written;
  named = first.named ++ rest.named;
  rejected = first.rejected ++ rest.rejected;
}

-- what is sent, and what is returned, or nothing where that depends on bytes that were not read
pub record Regrouped : Type 0 where
  pub sent : Sent
  pub returned : Option (Result ℕ Fault)

-- nothing more is sent
abbrev pub returning : Option (Result ℕ Fault) → Regrouped
returning returned = record { sent = only_written []; returned = returned }

-- what is sent of a line, and after it of others
abbrev pub sending : Sent → Regrouped → Regrouped
sending sent rest = record { sent = joined sent rest.sent; returned = rest.returned }

-- the same, or the fault that is returned in place of the line
abbrev pub sending_line : Result Sent Fault → Regrouped → Regrouped
sending_line (Ok sent) rest = sending sent rest
sending_line (Err fault) rest = returning (Some (Err fault))

-- the text of a decimal, or the fault of the text that has none
abbrev pub decimal_written : Option FixedPoint → NotationData → ℕ → List ℕ → Result (List ℕ) Fault
decimal_written decimal to number text =
    if is_utf8 text then ok_or (option_map (number_text to) decimal) (Line number (ParseNumber (cut_text text))) else Err (NotText number)

-- the text that is written in place of that of a number, or the fault of that text
abbrev pub number_written : Reading → NotationData → NotationData → ℕ → List ℕ → Result (List ℕ) Fault
number_written reading from to number text = decimal_written (decimal_in (read_by reading) from text) to number text

-- a text with these bytes before and after it
abbrev pub between : (before after : List ℕ) → Result (List ℕ) Fault → Result (List ℕ) Fault
between before after written = result_map_both (λ text. before ++ (text ++ after)) (λ fault. fault) written

-- a text with the number at this place: the other bytes are passed on, and so are all where the number has no byte and that is no fault
abbrev pub place_written : Rules → NotationData → NotationData → ℕ → List ℕ → ℕ × ℕ → Result (List ℕ) Fault
place_written rules from to number text place =
    if rules.passes_empty && (place.0 == place.1) then Ok text else
    between (take place.0 text) (drop place.1 text) (number_written rules.reading from to number (slice_range text place.0 place.1))

-- where the number in a field is and the text that is written in place of it, or its fault, or nothing where it has no byte and that is
-- no fault: where there may be quotes, no number has one
abbrev pub field_read : Rules → (quotes : Bool) → NotationData → NotationData → ℕ → (field : List ℕ)
    → Result (Option ((ℕ × ℕ) × List ℕ)) Fault
field_read rules quotes from to number field =
    let place = without_affixes rules.affixes field (number_place quotes field) in
    let text = slice_range field place.0 place.1 in
    if rules.passes_empty && (place.0 == place.1) then Ok None else
    if quotes && list_any (is_barred rules.line_end) text then Err (text_fault number text) else
    result_map_both (λ written. Some (place, written)) (λ fault. fault) (number_written rules.reading from to number text)

-- the field of the last number, which may be chosen: its fault names it
abbrev pub field_written : Rules → Fields → NotationData → NotationData → ℕ → ℕ → List ℕ → Result (List ℕ) Fault
field_written rules fields from to number n field =
    if is_chosen_field fields.list.now fields.blanks n field then result_map_both (field_with fields rules.line_end field)
    (in_field n) (field_read rules fields.quotes from to number field) else Ok (field_with fields rules.line_end field None)

-- a text before others, or the first fault
abbrev pub with_first : Result (List ℕ) Fault → Result (List (List ℕ)) Fault → Result (List (List ℕ)) Fault
with_first (Ok text) (Ok texts) = Ok (text ∷ texts)
with_first (Ok text) (Err fault) = Err fault
with_first (Err fault) texts = Err fault

-- the fields of a line that so many counted ones are before, or the first fault; where they end, the line may have too few
abbrev pub fields_written : Rules → Fields → NotationData → NotationData → ℕ → (before : ℕ) → List (List ℕ) → Result (List (List ℕ)) Fault
fields_written rules fields from to number before [] =
    if are_enough fields.list.now before then Ok [] else Err (FewFields number (field_count fields.delimiter fields.list.now before))
fields_written rules fields from to number before (text ∷ texts) =
    let n = number_of fields.blanks before text in
    with_first (field_written rules fields from to number n text) (fields_written rules fields from to number n texts)

-- the delimiter of the fields that may be in quotes, if they may, and if it is no quote
abbrev pub quotes_of : Fields → Option ℕ
quotes_of fields = if fields.quotes && not (is_quote fields.delimiter) then Some fields.delimiter else None

-- the fields of a line
abbrev pub fields_of : Fields → List ℕ → List (List ℕ)
fields_of fields text = split_at (quotes_of fields) fields.delimiter Start text

-- a line with the number in each chosen field replaced
abbrev pub fields_replaced : Fields → Rules → NotationData → NotationData → ℕ → List ℕ → Result (List ℕ) Fault
fields_replaced fields rules from to number text =
    result_map_both (join_with_byte (output_delimiter fields)) (λ fault. fault)
    (fields_written rules fields from to number 0 (fields_of fields text))

-- a text after these bytes
abbrev pub after : List ℕ → Result (List ℕ) Fault → Result (List ℕ) Fault
after bytes written = result_map_both (λ text. bytes ++ text) (λ fault. fault) written

-- a text and what is after it, or the first fault
abbrev pub followed : Result (List ℕ) Fault → Result (List ℕ) Fault → Result (List ℕ) Fault
followed (Ok text) rest = after text rest
followed (Err fault) rest = Err fault

-- what is left of a line of so many fields, with the byte that ends it, or the fault of one with too few
abbrev pub line_ended : Fields → (number count : ℕ) → (rest : List ℕ) → Result (List ℕ) Fault
line_ended fields number count rest = if are_enough fields.list.now count then Ok rest else Err
    (FewFields number (field_count fields.delimiter fields.list.now count))

-- the fields of these numbers as they are written, or the first fault
abbrev pub all_written : Rules → Fields → NotationData → NotationData → ℕ → List (ℕ × List ℕ) → Result (List (List ℕ)) Fault
all_written rules fields from to number [] = Ok []
all_written rules fields from to number (item ∷ items) =
    with_first (field_written rules fields from to number item.0 item.1) (all_written rules fields from to number items)

-- the fields of a line that are in the ranges of a list alone, in its order, with the number in each chosen one replaced: the line may have
-- too few
abbrev pub chosen_replaced : Fields → List FieldRange → Rules → NotationData → NotationData → ℕ → List ℕ → Result (List ℕ) Fault
chosen_replaced fields list rules from to number text =
    let all = fields_of fields text in
    followed (result_map_both (join_with_byte (output_delimiter fields)) (λ fault. fault)
    (all_written rules fields from to number (listed list fields.blanks all)))
    (line_ended fields number (count_after fields.blanks 0 all) [])

-- a line with the numbers where the rules say replaced
abbrev pub numbers_replaced : Span → Rules → NotationData → NotationData → ℕ → List ℕ → Result (List ℕ) Fault
numbers_replaced span.Line rules from to number text = place_written rules from to number text (0, length text)
numbers_replaced span.Trimmed rules from to number text =
    place_written rules from to number text (without_affixes rules.affixes text (trimmed text (0, length text)))
numbers_replaced (span.Fields fields) rules from to number text =
    if fields.only then chosen_replaced fields fields.list.now rules from to number text else
    fields_replaced fields rules from to number text

-- the delimiter of the fields that may be in quotes, if there are such
abbrev pub quotes_in : Span → Option ℕ
quotes_in span.Line = None
quotes_in span.Trimmed = None
quotes_in (span.Fields fields) = quotes_of fields

-- the bytes of a byte order mark
abbrev pub MARK : List ℕ
MARK = 239 ∷ 187 ∷ 191 ∷ []

-- whether a text begins with one
abbrev pub begins_with_mark : List ℕ → Bool
begins_with_mark text = starts_with nat_eq text MARK

-- whether it is passed on: it is in the first line, and not all bytes of a line are those of its number
abbrev pub passes_mark : Span → ℕ → List ℕ → Bool
passes_mark span.Line number text = false
passes_mark span.Trimmed number text = (number == 1) && begins_with_mark text
passes_mark (span.Fields fields) number text = (number == 1) && begins_with_mark text

-- how many bytes of a line are one that is passed on
abbrev pub mark_len : Span → ℕ → List ℕ → ℕ
mark_len span number text = if passes_mark span number text then length MARK else 0

-- a header: each of its fields is written as one that is not chosen
abbrev pub header_written : Span → (line_end : ℕ) → List ℕ → List ℕ
header_written span.Line line_end text = text
header_written span.Trimmed line_end text = text
header_written (span.Fields fields) line_end text =
    let all = fields_of fields text in
    let written = if fields.only then map (λ item. item.1) (listed fields.list.now fields.blanks all) else all in
    join_with_byte (output_delimiter fields) (map (λ field. field_with fields line_end field None) written)

-- what is written in place of a line without a byte order mark
abbrev pub unmarked_written : Rules → NotationData → NotationData → ℕ → List ℕ → Result (List ℕ) Fault
unmarked_written rules from to number text =
    if nat_le number rules.header_lines then Ok (header_written rules.span rules.line_end text) else
    numbers_replaced rules.span rules from to number text

-- what is written in place of a line
abbrev pub body_written : Rules → NotationData → NotationData → ℕ → List ℕ → Result (List ℕ) Fault
body_written rules from to number text =
    if passes_mark rules.span number text then after MARK (unmarked_written rules from to number (drop (length MARK) text)) else
    unmarked_written rules from to number text

-- whether a line at fault is passed on
abbrev pub passes : Invalid → Bool
passes Abort = false
passes Fail = true
passes Warn = true
passes Ignore = true

-- the faults that are named of a line at fault that does not end the run
abbrev pub fault_named : Invalid → Fault → List Fault
fault_named Abort fault = []
fault_named Fail fault = fault ∷ []
fault_named Warn fault = fault ∷ []
fault_named Ignore fault = []

-- its bytes, which are rejected or else written, after the faults that are named
abbrev pub passed : (rejects : Bool) → List Fault → List ℕ → Sent
passed rejects named bytes = record { written = if rejects then [] else bytes; named = named; rejected = if rejects then bytes else [] }

-- what is sent of bytes at fault, or the fault, which is returned
abbrev pub fault_sent : Rules → Fault → List ℕ → Result Sent Fault
fault_sent rules fault bytes = if passes rules.invalid then Ok (passed rules.rejects (fault_named rules.invalid fault) bytes) else Err fault

-- what is sent of a line, by what is written in place of it or its fault
abbrev pub body_sent : Rules → List ℕ → Result (List ℕ) Fault → Result Sent Fault
body_sent rules text (Ok body) = Ok (only_written (ended_by rules.line_end body))
body_sent rules text (Err fault) = fault_sent rules fault (ended_by rules.line_end text)

-- what is sent of the text of a line, or its fault
abbrev pub text_sent : Rules → NotationData → NotationData → ℕ → List ℕ → Result Sent Fault
text_sent rules from to number text = body_sent rules text (body_written rules from to number text)

-- the rules that read the whole of each line leniently
abbrev pub lenient : Rules
lenient = record {
  span = span.Line;
  affixes = None;
  reading = record { parsing = Lenient; scale = None };
  header_lines = 0;
  passes_empty = false;
  invalid = Abort;
  rejects = false;
  line_end = 10;
  max_line_len = 4096;
  flushes = false;
}

-- what is sent of a record that has no byte too many, or its fault: at the end of an input it may end inside quotes, and with the byte that
-- ends lines
abbrev pub record_sent : Rules → NotationData → NotationData → ℕ → List ℕ → Result Sent Fault
record_sent rules from to number text =
    if is_open (quotes_in rules.span) number text then fault_sent rules (Unclosed number)
    (ended_once rules.line_end false text) else text_sent rules from to number text

-- the fault of a line or a record that is too long: quotes that its first bytes do not close
abbrev pub long_fault : Rules → ℕ → List ℕ → Fault
long_fault rules number text = if is_open (quotes_in rules.span) number
    (take (rules.max_line_len + 1) text) then Unclosed number else TooLong number rules.max_line_len

-- what is sent of the record that so many are before, and that begins in the line of this number, or its first fault: it may be one too
-- many, or too long, of which these bytes are sent
abbrev pub line_sent : Rules → (most : ℕ) → NotationData → NotationData → (count number : ℕ) → (ended : List ℕ) → List ℕ → Result Sent Fault
line_sent rules most from to count number ended text =
    if nat_lt most (count + 1) then Err TooMany else
    if nat_lt rules.max_line_len (length text) then fault_sent rules (long_fault rules number text) ended else record_sent rules from to
    number text

-- what a stop returns in a record that is not too long: the fault of a failed read or flush
abbrev pub stop_returned : Stop → Option (Result ℕ Fault)
stop_returned Failed = Some (Err Read)
stop_returned Unflushed = Some (Err Flush)
stop_returned Ended = None
stop_returned Unread = None
stop_returned Endless = None

-- what it returns in one that is and is passed on
abbrev pub long_returned : Stop → Option (Result ℕ Fault)
long_returned Failed = Some (Err Read)
long_returned Unflushed = Some (Err Flush)
long_returned Endless = Some (Err TooMany)
long_returned Ended = None
long_returned Unread = None

-- the beginning of the record that so many are before: nothing is sent unless it is too long
abbrev pub line_begun : Rules → (most : ℕ) → Stop → (count number : ℕ) → List ℕ → Regrouped
line_begun rules most stop count number text =
    if length text == 0 then returning (stop_returned stop) else
    if nat_lt most (count + 1) then returning (Some (Err TooMany)) else
    if nat_lt rules.max_line_len (length text) then sending_line (fault_sent rules (long_fault rules number text) text)
    (returning (long_returned stop)) else
    returning (stop_returned stop)

-- what stands after the last byte that ends a record, with so many records before it: at the end it is one unless it is empty, and in
-- quotes that are not closed it may end with that byte
abbrev pub regrouped_rest : Rules → (most : ℕ) → NotationData → NotationData → Stop → (count number : ℕ) → List ℕ → Regrouped
regrouped_rest rules most from to Ended count number rest =
    if length rest == 0 then returning (Some (Ok count)) else
    sending_line (line_sent rules most from to count number (ended_once rules.line_end false rest) rest) (returning (Some (Ok (count + 1))))
regrouped_rest rules most from to stop count number rest = line_begun rules most stop count number rest

-- the number of the line after a record
abbrev pub line_after : Rules → ℕ → List ℕ → ℕ
line_after rules number text = next_line (line_reached (quotes_in rules.span) rules.line_end number text)

-- the parts between the bytes that end records, with so many records before them: each but the last is a record
abbrev pub regrouped_parts : Rules → (most : ℕ) → NotationData → NotationData → Stop → (count number : ℕ) → List (List ℕ) → Regrouped
regrouped_parts rules most from to stop count number [] = returning None
regrouped_parts rules most from to stop count number (rest ∷ []) = regrouped_rest rules most from to stop count number rest
regrouped_parts rules most from to stop count number (text ∷ next ∷ parts) =
    sending_line (line_sent rules most from to count number (ended_by rules.line_end text) text)
    (regrouped_parts rules most from to stop (count + 1) (line_after rules number text) (next ∷ parts))

-- the lines or records of a text, of which the first begins in the line of this number
abbrev pub records_of : Rules → ℕ → List ℕ → List (List ℕ)
records_of rules number bytes = split_at (quotes_in rules.span) rules.line_end (record_start number) bytes

-- the bytes of an input, with so many records before them, from the line of this number on
abbrev pub regrouped_after : Rules → (most : ℕ) → NotationData → NotationData → Stop → (count number : ℕ) → List ℕ → Regrouped
regrouped_after rules most from to stop count number bytes = regrouped_parts rules most from to stop count number
    (records_of rules number bytes)

-- an input that may have this many lines, or records: the bytes that a reader gave, and how it stopped
abbrev pub regrouped : Rules → (most : ℕ) → NotationData → NotationData → Stop → List ℕ → Regrouped
regrouped rules most from to stop bytes = regrouped_after rules most from to stop 0 1 bytes
