-- What the program does with several inputs where sums are asked for.
use Rattle.std.specs.Prelude.{◌≡◌, ◌⊎◌, ⊤, ℕ, max, Bool, true, false, not, is_some, if◌then◌else◌, List, [], ◌∷◌, ◌++◌, ◌-◌, codes, length}
use Rattle.std.specs.Prelude.{take, Option, None, Some, Result, Ok, Err}
use Rattle.std.specs.Borrow.{Bor}
use Rattle.std.specs.Io.KnownBytes.{append_known}
use Rattle.std.specs.List.{flat_map, list_all}
use Rattle.std.specs.declared.io.ErrorKind.TheVariants.{OutOfMemory}
use Rattle.num_format.specs.Format.{FormatData}
use Rattle.num_format_decimal.specs.FixedPoint.{FixedPoint}
use Rattle.num_format_decimal.specs.Marks.{MarksDecimals}
use Rattle.num_format_decimal.specs.Text.{decimal_text}
use Rattle.regroup_faults.specs.Notation.{NotationData, latin}
use Rattle.regroup_faults.specs.declared.Parsing.TheVariants.{Strict}
use Rattle.regroup_lines.specs.Csv.{output_delimiter}
use Rattle.regroup_lines.specs.Sending.{Writer, by_writer}
use Rattle.regroup_lines.specs.Sending.Writer.{Output}
use Rattle.regroup_lines.specs.declared.rules.FieldRange.{FieldRange}
use Rattle.regroup_lines.specs.declared.rules.Invalid.TheVariants.{Abort}
use Rattle.regroup_lines.specs.declared.rules.Quoting.TheVariants.{Bare, Necessary}
use Rattle.regroup_lines.specs.declared.rules.Rules.{Rules}
use Rattle.regroup_lines.specs.declared.rules.Span.{Span}
use Rattle.regroup_lines.specs.declared.rules.Span.TheVariants as span
use Rattle.regroup_stream.specs.Ending.{SendsMessage}
use Rattle.regroup_stream.specs.Inputs.{Opens, RunsWhole}
use Rattle.regroup_stream.specs.Stream.{Runs}
use Rattle.regroup_stream.specs.Sums.{KeepsSums}
use Rattle.regroup_stream.specs.Words.{plain}
use Rattle.regroup_stream.specs.declared.sums.Unsummed.{Unsummed}
use Rattle.regroup_stream.specs.declared.sums.Unsummed.TheVariants.{Failed, TooLarge}

-- the chosen fields alone, and of each its number alone, with tabs between them
abbrev pub bare_span : Span → Span
bare_span span.Line = span.Line
bare_span span.Trimmed = span.Trimmed
bare_span (span.Fields fields) = span.Fields (record fields { output = Some (record { delimiter = 9; quoting = Bare }); only = true })

-- rules by which the numbers of valid lines are written so, and no others
abbrev pub numbers_alone : Rules → Rules
numbers_alone rules = record rules { span = bare_span rules.span; rejects = true }

-- the byte between two sums
abbrev pub sums_delimiter : Span → ℕ
sums_delimiter span.Line = 9
sums_delimiter span.Trimmed = 9
sums_delimiter (span.Fields fields) = output_delimiter fields

-- each field
abbrev pub all_fields : List FieldRange
all_fields = record { first = 1; last = None } ∷ []

-- rules by which the numbers in these fields of a line, which tabs are between, are written as sums: an empty field has none
abbrev pub sum_rules : Rules → Bor (List FieldRange) → Rules
sum_rules rules list = record {
  span = span.Fields (record {
    list = list;
    delimiter = 9;
    quotes = false;
    output = Some (record { delimiter = sums_delimiter rules.span; quoting = Necessary });
    only = false;
    blanks = false;
  });
  affixes = None;
  reading = record { parsing = Strict; scale = None };
  header_lines = 0;
  passes_empty = true;
  invalid = Abort;
  rejects = false;
  line_end = rules.line_end;
  max_line_len = rules.max_line_len;
  flushes = false;
}

-- the text of a sum, if there is one
abbrev pub sum_text : FormatData → Option FixedPoint → List ℕ
sum_text format None = []
sum_text format (Some sum) = decimal_text format sum

-- the texts of sums with a tab after each
abbrev pub sum_texts : FormatData → List (Option FixedPoint) → List ℕ
sum_texts format sums = flat_map (λ sum. sum_text format sum ++ 9 ∷ []) sums

-- the same without the last tab, or no text where no column has a number
abbrev pub sums_text : FormatData → List (Option FixedPoint) → List ℕ
sums_text format sums =
    if list_all (λ sum. not (is_some sum)) sums then [] else take (length (sum_texts format sums) - 1) (sum_texts format sums)

-- the text of the sums of inputs, if all lines of these were taken, or why there is none
abbrev pub total_of : FormatData → (is_whole : Bool) → Option Unsummed → List (Option FixedPoint) → Result (Option (List ℕ)) Unsummed
total_of format false failure sums = Ok None
total_of format true (Some failure) sums = Err failure
total_of format true None sums = Ok (Some (sums_text format sums))

-- the inputs were run over with these formats, the log received the numbers of valid lines, and the total is that of their sums, unless
-- there is no memory for it
pub record Totals (opens : Opens) (rules : Rules) (fields : List (List ℕ)) (from to : NotationData) (names : List (List ℕ)) (status : ℕ)
    (total : Result (Option (List ℕ)) Unsummed) (old new : Writer → Option (List ℕ)) (held_old held_new : Writer → List ℕ) : Type 0 where
  pub is_whole : Bool
  pub runs : RunsWhole opens (numbers_alone rules) fields from to names status is_whole old new held_old held_new
  pub format : FormatData
  pub received : Option (List ℕ)
  pub failure : Option Unsummed
  pub sums : List (Option FixedPoint)
  pub are_received : new Output ≡ append_known received (held_new Output)
  pub are_sums : ∥ KeepsSums format failure sums received ∥₁
  pub total_is : (total ≡ total_of to.format is_whole failure sums) ⊎ (total ≡ Err (Failed OutOfMemory))

-- the same of a log that received these bytes before
pub record ReadsTotal (opens : Opens) (rules : Rules) (fields : List (List ℕ)) (from to : NotationData) (names : List (List ℕ))
    (log : Option (List ℕ)) (status : ℕ) (total : Result (Option (List ℕ)) Unsummed) (err_old err rejects_old rejects : Option (List ℕ))
    (held_rejects_old held_rejects : List ℕ) : Type 0 where
  pub received : Option (List ℕ)
  pub left : List ℕ
  pub totals : Totals opens rules fields from to names status total (by_writer (append_known log []) err_old rejects_old)
      (by_writer received err rejects) (by_writer [] [] held_rejects_old) (by_writer left [] held_rejects)

-- the message of a sum that is past 128 bits
abbrev pub past_message : List ℕ
past_message = codes "regroup-lines: a sum has more than 128 bits\n"

-- what is done where there is no total for this reason, and with which status: only a sum that is past 128 bits has a message
abbrev pub EndsUnsummed : Unsummed → (status : ℕ) → (err_old err_new : Option (List ℕ)) → Type 0
EndsUnsummed TooLarge status err_old err_new = SendsMessage past_message 1 status err_old err_new
EndsUnsummed (Failed kind) status err_old err_new = (status ≡ 3) × (err_new ≡ err_old)

-- what is done with a total, and with which status: its text is the line of an input from the plain format to that of the output
pub data Ends (rules : Rules) (from to : NotationData) (first : ℕ) : (total : Result (Option (List ℕ)) Unsummed) → (status : ℕ)
    → (old new : Writer → Option (List ℕ)) → (held_old held_new : Writer → List ℕ) → Type 0 where
  none : (all : Writer → Option (List ℕ)) (held : Writer → List ℕ) → Ends rules from to first (Ok None) first all all held held
  written : (text : List ℕ) (list : Bor (List FieldRange)) (status : ℕ) (old new : Writer → Option (List ℕ))
      (held_old held_new : Writer → List ℕ) → list.now ≡ all_fields →
      Runs (sum_rules rules list) from to (codes "-") status (Some text) old new held_new →
      Ends rules from to first (Ok (Some text)) status old new held_old held_new
  unsummed : (why : Unsummed) (status : ℕ) (out err_old err_new rejects : Option (List ℕ)) (held : Writer → List ℕ) →
      EndsUnsummed why status err_old err_new →
      Ends rules from to first (Err why) status (by_writer out err_old rejects) (by_writer out err_new rejects) held held

-- this is no format, or one under which not every decimal parses back from its text
abbrev pub IsAmbiguous : Option FormatData → Type 0
IsAmbiguous None = ⊤
IsAmbiguous (Some format) = ¬ (MarksDecimals format)

-- what the program does: it adds up the numbers of all inputs, and writes the total of them, with the higher status; or it does nothing
-- if the format `plain` is ambiguous
pub data SumsAll (opens : Opens) (rules : Rules) (fields : List (List ℕ)) (from to : NotationData) (names : List (List ℕ))
    (log : Option (List ℕ)) : (status : ℕ) → (old new : Writer → Option (List ℕ)) → (held_old held_new : Writer → List ℕ) → Type 0 where
  sums : (format : FormatData) (first last : ℕ) (total : Result (Option (List ℕ)) Unsummed)
      (out err_old err rejects_old rejects : Option (List ℕ)) (new : Writer → Option (List ℕ))
      (held_out held_rejects_old held_rejects : List ℕ) (held_new : Writer → List ℕ) → plain ≡ Some format →
      ReadsTotal opens rules fields from (latin format) names log first total err_old err rejects_old rejects held_rejects_old
      held_rejects →
      Ends rules (latin format) to first total last (by_writer out err rejects) new (by_writer held_out [] held_rejects) held_new →
      SumsAll opens rules fields from to names log (max first last) (by_writer out err_old rejects_old) new
      (by_writer held_out [] held_rejects_old) held_new
  ambiguous : (all : Writer → Option (List ℕ)) (held : Writer → List ℕ) → IsAmbiguous plain →
      SumsAll opens rules fields from to names log 3 all all held held
