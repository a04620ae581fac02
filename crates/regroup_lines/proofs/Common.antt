-- The names that many proofs of this crate use.
pub use Rattle.std.proofs.Common.{Bool, Decides, Err, IsUtf8, List, None, Ok, Option, Result, SFits, Some, [], ap, append-nil, append_assoc}
pub use Rattle.std.proofs.Common.{arith, drop, eq-eqb, false, get_or, if◌then◌else◌, inl, inr, length, refl, rules, slice_range, subst, sym}
pub use Rattle.std.proofs.Common.{take, take-append-drop, true, ℕ, ◌*◌, ◌++◌, ◌+◌, ◌-◌, ◌<◌, ◌==◌, ◌^◌, ◌∙◌, ◌∷◌, ◌≡◌, ◌≢◌, ◌≤◌}
pub use Rattle.num_format.proofs.WritingLemmas.{HasReceivedUpTo-none, OnErr-always, StopsWithin_prefix, StopsWithin_suffix}
pub use Rattle.num_format.specs.Cut.{cut_text}
pub use Rattle.num_format.specs.Format.{FormatData, HasUtf8Texts}
pub use Rattle.regroup_faults.specs.Notation.{NotationData, ascii_in, decimal_in, number_text}
pub use Rattle.num_format.specs.Refusal.{ParseNumber, Refusal}
pub use Rattle.num_format.specs.Text.{text_of}
pub use Rattle.num_format.specs.Writing.{Sends, StopsWithin}
pub use Rattle.num_format_decimal.specs.Text.{decimal_text}
pub use Rattle.std.proofs.KnownBytes.{Appends-kept, Appends-nil, Appends-trans, Consumes-kept, Consumes-nil, Consumes-trans, Keeps-trans}
pub use Rattle.std.proofs.lemmas.Bool.{both_ways, cases_Bool, eqb-true, false_from_ne_true, le-leb, le-ltb, leb-false, leb-true, lt-leb}
pub use Rattle.std.proofs.lemmas.Bool.{ltb-false, ne_eqb, not-true, not_from_false, or_from, or_parts}
pub use Rattle.std.proofs.lemmas.Bool.Decides.{Decides-and, Decides-like, Decides-ltb, Decides-not, Decides-or}
pub use Rattle.std.proofs.lemmas.List.{drop-append-le, drop-drop, drop-take, drop_all, drop_at, drop_more, get_or-drop, get_or-take}
pub use Rattle.std.proofs.lemmas.List.{length-append, length-drop, length-take, length-take-le, length_push, take-append-le, take_all}
pub use Rattle.std.proofs.lemmas.List.{take_at, take_more, take_rest}
pub use Rattle.std.proofs.lemmas.List.Sums.{fold-append, prefix_len-le-length, suffix_len-le-length, sum_by-append}
pub use Rattle.std.proofs.lemmas.Result.{err_from_is_err_and}
pub use Rattle.std.proofs.lemmas.Str.{IsUtf8-from_is_utf8, is_utf8-from_IsUtf8}
pub use Rattle.std.specs.Char.{is_ascii_digit, is_ascii_whitespace}
pub use Rattle.std.specs.Io.KnownBytes.{Appends, Consumes, IsAtEnd, Keeps}
pub use Rattle.std.specs.List.{after_first, before_first, flat_map, fold, join_with_byte, list_all, list_any, onto_first, position_or_len}
pub use Rattle.std.specs.List.{prefix_len, slice_split, suffix_len}
pub use Rattle.std.specs.Option.{ok_or, option_map, unwrap_or}
pub use Rattle.std.specs.Prelude.{All, FitsSigned, MatchOption, codes, cond, is_some, map, nat_eq, nat_le, nat_lt, negsuc, not, pos, suc}
pub use Rattle.std.specs.Prelude.{zero, ℤ, ⊤, ◌&&◌, ◌||◌, ◌↔◌}
pub use Rattle.std.specs.Result.{OkIff, result_map_both, result_or}
pub use Rattle.std.specs.Str.{IsTrimAsciiEnd, IsTrimAsciiStart, all_ascii_digits, is_utf8}
pub use Rattle.std.specs.declared.ops.Range.{Range}
pub use lib.Seq.{take-add}
pub use Rattle.regroup_faults.specs.Decimals.{decimal_read, has_no_numeral, is_sign, typed_read}
pub use Rattle.regroup_lines.specs.Ended.{ended_by, ended_once, ends_with}
pub use Rattle.regroup_faults.specs.Fault.{Fault, are_any, fault_of, in_field}
pub use Rattle.regroup_faults.specs.Fault.Fault.{FewFields, Field, FieldNotText, Flush, Line, NotText, Read, Reject, Report, TooLong}
pub use Rattle.regroup_faults.specs.Fault.Fault.{TooMany, Unclosed, Write}
pub use Rattle.regroup_lines.specs.Input.{EndsOrGoesOn, FindsPiece, HasNoEnd, IsInArray, IsLong, IsRecord, IsStop, Reads, array_len}
pub use Rattle.regroup_lines.specs.Input.{bytes_at, held, stop_result, stop_text}
pub use Rattle.regroup_lines.specs.LineFaults.{IsHalt, line_fault_of, text_fault}
pub use Rattle.regroup_lines.specs.Lines.{
  MARK,
  Regrouped,
  Sent,
  Stop,
  after,
  all_written,
  begins_with_mark,
  between,
  body_sent,
  body_written,
  chosen_replaced,
  decimal_written,
  fault_named,
  fault_sent,
  field_read,
  field_written,
  fields_of,
  fields_replaced,
  fields_written,
  followed,
  header_written,
  joined,
  lenient,
  line_after,
  line_begun,
  line_ended,
  line_sent,
  long_fault,
  long_returned,
  number_written,
  numbers_replaced,
  only_written,
  passed,
  passes,
  passes_mark,
  place_written,
  quotes_in,
  quotes_of,
  record_sent,
  records_of,
  regrouped,
  regrouped_after,
  regrouped_parts,
  regrouped_rest,
  returning,
  sending,
  sending_line,
  stop_returned,
  text_sent,
  unmarked_written,
  with_first,
}
pub use Rattle.regroup_lines.specs.Lines.Stop.{Ended, Endless, Failed, Unflushed, Unread}
pub use Rattle.regroup_faults.specs.Messages.{fault_message, messages}
pub use Rattle.regroup_lines.specs.Places.{are_enough, field_count, is_at_most, is_chosen, is_chosen_field, is_chosen_from, is_counted}
pub use Rattle.regroup_lines.specs.Places.{is_enough, number_of, one_field, trimmed, without_affixes}
pub use Rattle.regroup_lines.specs.Records.{Searched, after_bare, after_byte, after_record_byte, after_text, has_end, is_inside, is_open}
pub use Rattle.regroup_lines.specs.Records.{is_quote, line_reached, lines_ended, next_line, record_start, split_at}
pub use Rattle.regroup_lines.specs.Sending.{Names, PassesLong, Receives, ReceivesBytes, ReceivesEach, ReceivesPrefix, Regroups}
pub use Rattle.regroup_lines.specs.Sending.{RegroupsNaming, Returns, SendsBytes, SendsEach, SendsLine, Writer, by_writer, bytes_to}
pub use Rattle.regroup_lines.specs.Sending.{failed_by, failed_writer, text_to}
pub use Rattle.regroup_lines.specs.Sending.Writer.{Messages, Output, Rejects}
pub use Rattle.regroup_lines.specs.declared.Summary.{Summary}
pub use Rattle.regroup_lines.specs.declared.input.Input.{Input}
pub use Rattle.regroup_lines.specs.declared.input.InputPiece.{InputPiece}
pub use Rattle.regroup_lines.specs.declared.line_fault.LineFault.{LineFault}
pub use Rattle.regroup_lines.specs.declared.records.CsvState.{CsvState}
pub use Rattle.regroup_lines.specs.declared.records.CsvState.TheVariants.{Start}
pub use Rattle.regroup_faults.specs.declared.Reading.{Reading}
pub use Rattle.regroup_faults.specs.Reading.{at_scale, read_by, whole_read}
pub use Rattle.regroup_lines.specs.declared.rules.Rules.{Rules}
pub use Rattle.num_format.specs.Readable.{fits_i128, number_read}
pub use Rattle.num_format.specs.Reading.{Refused, denoted, text_digits}
pub use Rattle.num_format_decimal.specs.FixedPoint.{FixedPoint, fixed_point}
pub use Rattle.num_format_decimal.specs.Marks.{IsPlainFormat, MarksDecimals}
pub use Rattle.num_format_decimal.specs.Parsing.{DecimalResult, IsDecimalCause, IsExpectedDecimal, ParsesDecimal, IsCanonicalDecimal}
pub use Rattle.num_format_decimal.specs.Parsing.{IsNotCanonical}
pub use Rattle.num_format_decimal.specs.Parsing.{unexpected_in_decimal, with_separators, without_separators}
pub use Rattle.num_format_parsing.specs.declared.error.StrictError.{StrictError}
pub use Rattle.regroup_lines.specs.Csv.{doubled, field_with, is_barred, is_opened, number_place, output_delimiter}
pub use Rattle.regroup_lines.specs.Csv.{part_text, passed_as, quoted_len}
pub use Rattle.regroup_lines.specs.declared.rules.FieldRange.{FieldRange}
pub use Rattle.regroup_lines.specs.declared.rules.Fields.{Fields}
pub use Rattle.regroup_lines.specs.declared.rules.Span.{Span}
pub use Rattle.std.proofs.lemmas.Grind.{flat_map-append}
pub use Rattle.std.specs.Int.{w128}
