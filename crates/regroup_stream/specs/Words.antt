-- The formats that words and files name, and what is wrong with those that name none.
use Rattle.std.specs.Prelude.{◌≡◌, ℕ, ◌==◌, Bool, true, false, not, ◌&&◌, ◌||◌, if◌then◌else◌, nat_eq, nat_lt, List}
use Rattle.std.specs.Prelude.{[], ◌∷◌, ◌++◌, length, drop, codes, Option, None, Some, is_some, option_and_then, Result, Ok, Err, ⊤, ◌⊎◌}
use Rattle.std.specs.Borrow.{Bor}
use Rattle.std.specs.Char.{is_ascii_whitespace}
use Rattle.std.specs.List.{list_any, starts_with}
use Rattle.std.specs.Option.{ok_or, option_map, unwrap_or}
use Rattle.std.specs.Result.{result_map_both, result_ok}
use Rattle.std.specs.Str.{bytes_eq}
use Rattle.std.specs.declared.io.ErrorKind.{ErrorKind}
use Rattle.num_format.specs.Data.{locale_data}
use Rattle.num_format.specs.Format.{FormatData}
use Rattle.num_format.specs.Grouped.{printed_separator}
use Rattle.num_format.specs.Grouping.{Grouping}
use Rattle.num_format.specs.Grouping.TheVariants.{Posix}
use Rattle.num_format.specs.GroupingNames.{grouping_named}
use Rattle.num_format.specs.Lookup.{LooksUpTag}
use Rattle.num_format_decimal.specs.Marks.{MarksDecimals}
use Rattle.num_format_digits.specs.Digits.{in_digits}
use Rattle.num_format_digits.specs.Tags.{TagResult, digits_in}
use Rattle.num_format_digits.specs.declared.tags.UnknownDigits.{UnknownDigits}
use Rattle.regroup_faults.specs.Notation.{NotationData, latin}
use Rattle.regroup_faults.specs.declared.Parsing.{Parsing}
use Rattle.num_format_typed.specs.Typed.{IsTypable}
use Rattle.regroup_faults.specs.declared.Parsing.TheVariants.{Lenient, Strict, Typed}
use Rattle.num_format.specs.Building.{built, choices_of, chosen, custom_format}
use Rattle.num_format.specs.Constants.{MAX_DEC_LEN, MAX_MIN_LEN, MAX_SEP_LEN}
use Rattle.num_format.specs.English.{english}
use Rattle.regroup_faults.specs.Quoting.{quoted}
use Rattle.regroup_lines.specs.Ended.{line}
use Rattle.regroup_lines.specs.Places.{no_break_space_len}
use Rattle.regroup_lines.specs.declared.rules.Span.{Span}
use Rattle.regroup_lines.specs.declared.rules.Span.TheVariants as span
use Rattle.regroup_stream.specs.Files.{HoldsFormat, Unfit, unfit_message, unfit_of}
use Rattle.regroup_stream.specs.Files.Unfit.{Unread}
use Rattle.regroup_stream.specs.declared.words.Ambiguity.{Ambiguity}
use Rattle.regroup_stream.specs.declared.words.Ambiguity.TheVariants.{NoMinusSign, NoDecimalMark, SameSymbol, NumeralInSymbol}
use Rattle.regroup_stream.specs.declared.words.Ambiguity.TheVariants.{TypedAlike, BlankMinusSign, AffixMinusSign, PrintsDelimiter}
use Rattle.regroup_stream.specs.declared.words.Misuse.{Misuse}
use Rattle.regroup_stream.specs.declared.words.Misuse.TheVariants as misuse
use Rattle.regroup_stream.specs.declared.words.Source.{Source}
use Rattle.regroup_stream.specs.declared.words.Source.TheVariants as source

-- the split before the first byte of a text: that of the bytes after it, or else that at the byte itself if it is a colon
abbrev pub split_before : ℕ → List ℕ → Option (List ℕ × List ℕ) → Option (List ℕ × List ℕ)
split_before b bytes (Some parts) = Some (b ∷ parts.0, parts.1)
split_before b bytes None = if b == 58 then Some ([], bytes) else None

-- what stands before the last colon of a text, and what stands after it
unfoldable pub split_last : List ℕ → Option (List ℕ × List ℕ)
split_last [] = None
split_last (b ∷ bytes) = split_before b bytes (split_last bytes)

-- en's format with these four fields, if the grouping has this name and the others fit
abbrev pub format_of_fields : (separator grouping minus_sign mark : List ℕ) → Option FormatData
format_of_fields separator grouping minus_sign mark =
    option_and_then (λ named. result_ok (built (record (choices_of english) {
      separator = chosen MAX_SEP_LEN separator;
      grouping = named;
      minus_sign = chosen MAX_MIN_LEN minus_sign;
      decimal = chosen MAX_DEC_LEN mark;
    }))) (grouping_named grouping)

-- the format of `SEP:GROUPING`, a minus sign and a decimal mark
abbrev pub marked_format_named : (fields minus_sign mark : List ℕ) → Option FormatData
marked_format_named fields minus_sign mark = option_and_then (λ parts. format_of_fields parts.0 parts.1 minus_sign mark) (split_last fields)

-- the format of three fields by which grouping the middle one names, if it names one, and else of four: the first one is then
-- `SEP:GROUPING`
abbrev pub format_of_three : (front middle last : List ℕ) → Option Grouping → Option FormatData
format_of_three front middle last (Some named) = result_ok (custom_format front named last)
format_of_three front middle last None = marked_format_named front middle last

-- the format of the fields before the last one, and of that
abbrev pub format_before : (fields last : List ℕ) → Option FormatData
format_before fields last = option_and_then (λ parts. format_of_three parts.0 parts.1 last (grouping_named parts.1)) (split_last fields)

-- the format of the fields `SEP:GROUPING:MINUS` or `SEP:GROUPING:MINUS:MARK`
abbrev pub custom_format_named : List ℕ → Option FormatData
custom_format_named fields = option_and_then (λ parts. format_before parts.0 parts.1) (split_last fields)

-- en's format without groups, with a hyphen as the minus sign
abbrev pub plain : Option FormatData
plain = result_ok (custom_format [] Posix (codes "-"))

-- what names a format: a word, or the name of a file and its bytes, or why it cannot be read
pub data Named : Type 0 where
  Word : List ℕ → Named
  File : List ℕ → Result (List ℕ) ErrorKind → Named

-- the `Named` of a `Source`
abbrev pub named_of : Source → Named
named_of (source.Word word) = Word word.now
named_of (source.File name bytes) = File name.now (result_map_both (λ bytes. bytes.now) (λ kind. kind) bytes)

-- the word, or the name of the file
abbrev pub text_of_named : Named → List ℕ
text_of_named (Word word) = word
text_of_named (File name bytes) = name

-- what is wrong with words or files, with the one that is wrong
pub data Wrong : Type 0 where
  NoFormat : List ℕ → Wrong
  NoDigits : List ℕ → Wrong
  Ambiguous : List ℕ → Ambiguity → Wrong
  BadFile : List ℕ → Unfit → Wrong

-- the `Wrong` of a `Misuse`
abbrev pub wrong_of : Misuse → Wrong
wrong_of (misuse.NoFormat word) = NoFormat word.now
wrong_of (misuse.NoDigits word) = NoDigits word.now
wrong_of (misuse.Ambiguous word ambiguity) = Ambiguous word.now ambiguity
wrong_of (misuse.BadFile name fault) = BadFile name.now (unfit_of fault)

-- the format of a tag's locale and the digit set that the tag names, latn where it names none, or what is wrong with the tag
abbrev pub notation_of : {E : Type 0} → (tag : List ℕ) → Option ℕ → Result (Option ℕ) E → Result NotationData Wrong
notation_of tag None digits = Err (NoFormat tag)
notation_of tag (Some locale) (Err unknown) = Err (NoDigits tag)
notation_of tag (Some locale) (Ok digits) = Ok (record { format = locale_data locale; digits = unwrap_or digits 48 })

-- what a tag names: it is looked up as a locale, and names its digits
pub record LooksUpNotation (tag : List ℕ) (named : Result NotationData Wrong) : Type 0 where
  pub locale : Option ℕ
  pub looked_up : LooksUpTag tag locale
  pub digits : Result (Option ℕ) UnknownDigits
  pub names : TagResult tag (digits_in tag) digits
  pub is : named ≡ notation_of tag locale digits

-- a format with the digits 0 to 9, or that a word names none
abbrev pub latin_or_none : (word : List ℕ) → Option FormatData → Result NotationData Wrong
latin_or_none word found = ok_or (option_map latin found) (NoFormat word)

-- what a word names, by whether the word begins with `custom:`: the format of the fields after it, or that of a locale
abbrev pub NamesCustomOrLocale : Bool → List ℕ → Result NotationData Wrong → Type 0
NamesCustomOrLocale true word named = named ≡ latin_or_none word (custom_format_named (drop 7 word))
NamesCustomOrLocale false word named = LooksUpNotation word named

-- the same, by whether the word is `plain`
abbrev pub NamesPlainOrOther : Bool → List ℕ → Result NotationData Wrong → Type 0
NamesPlainOrOther true word named = named ≡ latin_or_none word plain
NamesPlainOrOther false word named = NamesCustomOrLocale (starts_with nat_eq word (codes "custom:")) word named

-- how numbers are written by a word, or what is wrong with it
abbrev pub IsNamed : List ℕ → Result NotationData Wrong → Type 0
IsNamed word named = NamesPlainOrOther (bytes_eq word (codes "plain")) word named

-- numbers are read under the format: strictly only where each decimal parses back from its text, and typed where that has one meaning
abbrev pub IsReadUnder : Parsing → FormatData → Type 0
IsReadUnder Strict format = MarksDecimals format
IsReadUnder Typed format = MarksDecimals format × IsTypable format
IsReadUnder Lenient format = ⊤

-- why a format is ambiguous that is: the minus sign or the decimal mark is empty, the mark is the separator that is printed, or else a
-- symbol has a numeric character
abbrev pub ambiguity_of : FormatData → Ambiguity
ambiguity_of format =
    if length format.minus_sign == 0 then NoMinusSign else
    if length format.decimal == 0 then NoDecimalMark else
    if bytes_eq format.decimal (printed_separator format.grouping format.separator) then SameSymbol else NumeralInSymbol

-- not each decimal parses back from its text under the format for this reason
abbrev pub IsUnmarked : FormatData → Ambiguity → Type 0
IsUnmarked format why = ¬ (MarksDecimals format) × (why ≡ ambiguity_of format)

-- numbers are not read so under the format for this reason
abbrev pub IsUnread : Parsing → FormatData → Ambiguity → Type 0
IsUnread Strict format = IsUnmarked format
IsUnread Typed format = λ why. IsUnmarked format why ⊎ (MarksDecimals format × ¬ (IsTypable format) × (why ≡ TypedAlike))
IsUnread Lenient format = λ why. ⊥

-- what is said of such a format
abbrev pub cause_of : Ambiguity → List ℕ
cause_of NoMinusSign = codes ": the minus sign is empty"
cause_of NoDecimalMark = codes ": the decimal mark is empty"
cause_of SameSymbol = codes ": the decimal mark is the separator"
cause_of NumeralInSymbol = codes ": a symbol has a digit"
cause_of TypedAlike = codes ": ambiguous as people type it"
cause_of BlankMinusSign = codes ": the minus sign begins with whitespace"
cause_of AffixMinusSign = codes ": the minus sign begins with an affix"
cause_of PrintsDelimiter = codes ": numbers have the delimiter: see --csv"

-- the format that the file of this name holds, with the digits 0 to 9, or why it holds none
abbrev pub IsHeld : (name : List ℕ) → Result (List ℕ) ErrorKind → Result NotationData Wrong → Type 0
IsHeld name (Err kind) result = result ≡ Err (BadFile name (Unread kind))
IsHeld name (Ok bytes) result = (held : Result FormatData Unfit) × HoldsFormat bytes held
    × (result ≡ result_map_both latin (BadFile name) held)

-- how numbers are written by a word or a file, or what is wrong with it
abbrev pub IsFormatOf : Named → Result NotationData Wrong → Type 0
IsFormatOf (Word word) result = IsNamed word result
IsFormatOf (File name bytes) result = IsHeld name bytes result

-- what is wrong with two of them: the first has no format, or one that is not read; or else the second has none, or one that is ambiguous
pub data IsWrong (parsing : Parsing) (from to : Named) : Wrong → Type 0 where
  first : (wrong : Wrong) → IsFormatOf from (Err wrong) → IsWrong parsing from to wrong
  unread : (source : NotationData) (why : Ambiguity) → IsFormatOf from (Ok source) → IsUnread parsing source.format why
      → IsWrong parsing from to (Ambiguous (text_of_named from) why)
  second : (source : NotationData) (wrong : Wrong) → IsFormatOf from (Ok source) → IsReadUnder parsing source.format
      → IsFormatOf to (Err wrong) → IsWrong parsing from to wrong
  unwritten : (source target : NotationData) → IsFormatOf from (Ok source) → IsReadUnder parsing source.format
      → IsFormatOf to (Ok target) → ¬ MarksDecimals target.format →
      IsWrong parsing from to (Ambiguous (text_of_named to) (ambiguity_of target.format))

-- the two have these formats, the first is read, and the second is not ambiguous
pub record NamesBoth (parsing : Parsing) (from to : Named) (formats : NotationData × NotationData) : Type 0 where
  pub first : IsFormatOf from (Ok formats.0)
  pub read : IsReadUnder parsing formats.0.format
  pub second : IsFormatOf to (Ok formats.1)
  pub written : MarksDecimals formats.1.format

-- the formats of two of them, or what is wrong
abbrev pub NamesFormats : Parsing → (from to : Named) → Result (NotationData × NotationData) Wrong → Type 0
NamesFormats parsing from to (Ok formats) = NamesBoth parsing from to formats
NamesFormats parsing from to (Err wrong) = IsWrong parsing from to wrong

-- whether a text begins with ASCII whitespace
abbrev pub begins_blank : List ℕ → Bool
begins_blank [] = false
begins_blank (b ∷ text) = is_ascii_whitespace b

-- whether a text begins with one of those that may be before a number, or with a no-break space, if there are any
abbrev pub begins_with_affix : List ℕ → Option (Bor (List (Bor (List ℕ)))) → Bool
begins_with_affix text None = false
begins_with_affix text (Some affixes) =
    list_any (λ affix. starts_with nat_eq text affix.now) affixes.now || nat_lt 0 (no_break_space_len false text)

-- the delimiter of fields around which no quotes are written
abbrev pub bare_delimiter : Span → Option ℕ
bare_delimiter span.Line = None
bare_delimiter span.Trimmed = None
bare_delimiter (span.Fields fields) = if not fields.quotes && not (is_some fields.output) then Some fields.delimiter else None

-- whether a text has this byte
abbrev pub has_byte : List ℕ → ℕ → Bool
has_byte text byte = list_any (λ b. b == byte) text

-- whether a number that is printed may have this byte
abbrev pub prints_byte : NotationData → ℕ → Bool
prints_byte to b =
    has_byte (in_digits to.digits (codes "0123456789")) b || (has_byte (printed_separator to.format.grouping to.format.separator) b
    || (has_byte to.format.minus_sign b || has_byte to.format.decimal b))

-- whether a number that is printed may have the delimiter
abbrev pub prints_delimiter : NotationData → Option ℕ → Bool
prints_delimiter to None = false
prints_delimiter to (Some delimiter) = prints_byte to delimiter

-- why numbers are not told by two formats where the rules say, if they are not, and by which of these words or files
abbrev pub misfit : Span → Option (Bor (List (Bor (List ℕ)))) → (from to : Named) → NotationData × NotationData → Option Wrong
misfit span affixes from to formats =
    if begins_blank formats.0.format.minus_sign then Some (Ambiguous (text_of_named from) BlankMinusSign) else
    if begins_with_affix formats.0.format.minus_sign affixes then Some (Ambiguous (text_of_named from) AffixMinusSign) else
    if begins_blank formats.1.format.minus_sign then Some (Ambiguous (text_of_named to) BlankMinusSign) else
    if prints_delimiter formats.1 (bare_delimiter span) then Some (Ambiguous (text_of_named to) PrintsDelimiter) else None

-- the formats, unless something is wrong with them
abbrev pub ok_unless : NotationData × NotationData → Option Wrong → Result (NotationData × NotationData) Wrong
ok_unless formats None = Ok formats
ok_unless formats (Some wrong) = Err wrong

-- the formats of two of them by which numbers are told, or what is wrong
abbrev pub fitting : Span → Option (Bor (List (Bor (List ℕ)))) → (from to : Named) → Result (NotationData × NotationData) Wrong
    → Result (NotationData × NotationData) Wrong
fitting span affixes from to (Err wrong) = Err wrong
fitting span affixes from to (Ok formats) = ok_unless formats (misfit span affixes from to formats)

-- what is named is told, or else what is wrong
pub record NamesFormatsFor (parsing : Parsing) (span : Span) (affixes : Option (Bor (List (Bor (List ℕ))))) (from to : Named)
    (result : Result (NotationData × NotationData) Wrong) : Type 0 where
  pub named : Result (NotationData × NotationData) Wrong
  pub names : NamesFormats parsing from to named
  pub told : result ≡ fitting span affixes from to named

-- the message of arguments that are refused for this cause
abbrev pub arguments_message : (cause : List ℕ) → List ℕ
arguments_message cause = line (codes "regroup-lines: " ++ cause) ++ line (codes "Try 'regroup-lines --help' for more information.")

-- the message that shows a word with what is wrong with it
abbrev pub misuse_message : (word cause : List ℕ) → List ℕ
misuse_message word cause = arguments_message (quoted word ++ cause)

-- the message of what is wrong
abbrev pub message_of_wrong : Wrong → List ℕ
message_of_wrong (NoFormat word) = misuse_message word (codes " names no format")
message_of_wrong (NoDigits word) = misuse_message word (codes " names no digit set")
message_of_wrong (Ambiguous word ambiguity) = misuse_message word (cause_of ambiguity)
message_of_wrong (BadFile name unfit) = unfit_message name unfit
