-- The rules that options of the command line ask for.
use Rattle.std.specs.Prelude.{ℕ, ◌==◌, ◌&&◌, ◌||◌, nat_lt, not, Bool, true, false, if◌then◌else◌, List, [], ◌∷◌, length, bytes_eq, codes}
use Rattle.std.specs.Prelude.{Option, None, Some, Result, Ok, Err}
use Rattle.std.specs.Borrow.{Bor}
use Rattle.std.specs.Char.{is_whitespace}
use Rattle.std.specs.Char.Unicode.Numeric.{is_numeric}
use Rattle.std.specs.Int.{is_in_range}
use Rattle.std.specs.List.{list_all, list_any}
use Rattle.std.specs.Option.{ok_or}
use Rattle.std.specs.Result.{result_map_both}
use Rattle.std.specs.Str.{chars}
use Rattle.regroup_lines.specs.declared.rules.Invalid.{Invalid}
use Rattle.regroup_lines.specs.declared.rules.Invalid.TheVariants.{Abort, Fail}
use Rattle.regroup_lines.specs.declared.rules.Output.{Output}
use Rattle.regroup_lines.specs.declared.rules.Quoting.{Quoting}
use Rattle.regroup_lines.specs.declared.rules.Quoting.TheVariants.{Keep}
use Rattle.regroup_lines.specs.declared.rules.Rules.{Rules}
use Rattle.regroup_lines.specs.declared.rules.Span.{Span}
use Rattle.regroup_lines.specs.declared.rules.Span.TheVariants as span
use Rattle.regroup_stream.specs.declared.options.Options.{Options}
use Rattle.regroup_stream.specs.declared.options.OptionFault.{OptionFault}
use Rattle.regroup_stream.specs.declared.options.OptionFault.TheVariants.{NamesWithoutHeader}
use Rattle.regroup_stream.specs.declared.options.OptionFault.TheVariants.{LongDelimiter, QuoteDelimiter, LongOutputDelimiter}
use Rattle.regroup_stream.specs.declared.options.OptionFault.TheVariants.{BarredOutputDelimiter, BarredAffix, AbortingRejects}

-- the one ASCII character of a text, if it has no more
abbrev pub ascii_alone : List ℕ → Option ℕ
ascii_alone (byte ∷ []) = if nat_lt byte 128 then Some byte else None
ascii_alone _ = None

-- the byte that a text names as a delimiter
abbrev pub delimiter_named : List ℕ → Option ℕ
delimiter_named text = if bytes_eq text (codes "\\t") then Some 9 else ascii_alone text

-- the delimiter that is given, where fields may be in quotes or not: no quote if they may
abbrev pub delimiter_given : (csv : Bool) → List ℕ → Result ℕ OptionFault
delimiter_given csv text = if csv && bytes_eq text (codes "\"") then Err QuoteDelimiter else ok_or (delimiter_named text) LongDelimiter

-- the delimiter: if none is given, a space where runs of it separate fields, a comma where fields may be in quotes, and else a tab
abbrev pub delimiter_of : Options → Option (Bor (List ℕ)) → Result ℕ OptionFault
delimiter_of options None = Ok (if options.blanks then 32 else if options.csv then 44 else 9)
delimiter_of options (Some text) = delimiter_given options.csv text.now

-- whether a character is a sign, comma, point, apostrophe, quote or dash, or a mark of the direction of writing
abbrev pub is_mark : ℕ → Bool
is_mark c =
    c == 34 || c == 39 || is_in_range 43 46 c || c == 96 || c == 0xB4 || c == 0x2BC || c == 0x61C || is_in_range 0x66B 0x66C c
    || is_in_range 0x200B 0x201F c || is_in_range 0x202A 0x202E c || is_in_range 0x2060 0x206F c || c == 0x2212
    || is_in_range 0xFE50 0xFE63 c || is_in_range 0xFF07 0xFF0E c

-- whether a character is one that numbers have, or that is typed or printed for one
abbrev pub is_of_number : ℕ → Bool
is_of_number c = is_numeric c || is_whitespace c || is_mark c

-- whether a text may be before or after a number: it has a character, and none that a number may have
abbrev pub is_affix : List ℕ → Bool
is_affix text = not (length text == 0) && not (list_any is_of_number (chars text))

-- the texts that may be so, if there are any, and if each may
abbrev pub affixes_of : Option (Bor (List (Bor (List ℕ)))) → Result (Option (Bor (List (Bor (List ℕ))))) OptionFault
affixes_of None = Ok None
affixes_of (Some affixes) = if list_all (λ affix. is_affix affix.now) affixes.now then Ok (Some affixes) else Err BarredAffix

-- the byte that ends a line: NUL or a newline
abbrev pub line_end_of : Options → ℕ
line_end_of options = if options.zero_terminated then 0 else 10

-- a delimiter that may be written, by what it would be: no quote, nor what ends lines, as a carriage return may
abbrev pub output_delimiter_in : (line_end : ℕ) → Option ℕ → Result ℕ OptionFault
output_delimiter_in line_end None = Err LongOutputDelimiter
output_delimiter_in line_end (Some byte) = if byte == 34 || (byte == 13 || byte == line_end) then Err BarredOutputDelimiter else Ok byte

-- the same of what a text names
abbrev pub output_delimiter_named : Options → List ℕ → Result ℕ OptionFault
output_delimiter_named options text = output_delimiter_in (line_end_of options) (delimiter_named text)

-- how fields are written between which this delimiter is, by the other one that is given and by which of them are in quotes: they are
-- passed on if neither is asked for
abbrev pub output_of : Options → (delimiter : ℕ) → Option (Bor (List ℕ)) → Quoting → Result (Option Output) OptionFault
output_of options delimiter None Keep = Ok None
output_of options delimiter None quoting = Ok (Some (record { delimiter = delimiter; quoting = quoting }))
output_of options delimiter (Some text) quoting =
    result_map_both (λ given. Some (record { delimiter = given; quoting = quoting })) (λ fault. fault)
    (output_delimiter_named options text.now)

-- what is done with a line at fault: if that is not given, it ends the run, or is written to the file of such lines
abbrev pub invalid_of : Option Invalid → (rejects : Bool) → Result Invalid OptionFault
invalid_of None false = Ok Abort
invalid_of None true = Ok Fail
invalid_of (Some Abort) true = Err AbortingRejects
invalid_of (Some invalid) rejects = Ok invalid

-- what follows from a value, or the fault
abbrev pub and_then : {A B : Type 0} → Result A OptionFault → (A → Result B OptionFault) → Result B OptionFault
and_then (Ok value) next = next value
and_then (Err fault) next = Err fault

-- where the numbers are in a line: fields that have names need a header
abbrev pub span_of : Options → Result Span OptionFault
span_of options =
    if length options.list.now == 0 && not options.has_names then Ok span.Trimmed else
    if options.has_names && options.header_lines == 0 then Err NamesWithoutHeader else
    and_then (delimiter_of options options.delimiter) (λ delimiter.
    and_then (output_of options delimiter options.output_delimiter options.quoting) (λ output.
    Ok (span.Fields (record {
      list = options.list;
      delimiter = delimiter;
      quotes = options.csv;
      output = output;
      only = options.only;
      blanks = options.blanks;
    }))))

-- the rules, or the first fault: a line has at most 1 MiB
abbrev pub rules_of : Options → Result Rules OptionFault
rules_of options =
    and_then (span_of options) (λ span.
    and_then (affixes_of options.affixes) (λ affixes.
    and_then (invalid_of options.invalid options.rejects) (λ invalid. Ok (record {
      span = span;
      affixes = affixes;
      reading = options.reading;
      header_lines = options.header_lines;
      passes_empty = options.passes_empty;
      invalid = invalid;
      rejects = options.rejects;
      line_end = line_end_of options;
      max_line_len = 1048576;
      flushes = true;
    }))))

-- what is said of a fault
abbrev pub cause_of_option : OptionFault → List ℕ
cause_of_option NamesWithoutHeader = codes "a name in '--field' requires '--header'"
cause_of_option LongDelimiter = codes "the delimiter is not one ASCII character"
cause_of_option QuoteDelimiter = codes "the delimiter is a quote"
cause_of_option LongOutputDelimiter = codes "the output delimiter is not one ASCII character"
cause_of_option BarredOutputDelimiter = codes "the output delimiter is a quote or ends lines"
cause_of_option BarredAffix = codes "an affix is empty, or has a character that numbers have"
cause_of_option AbortingRejects = codes "option '--rejects' allows no '--invalid abort'"
