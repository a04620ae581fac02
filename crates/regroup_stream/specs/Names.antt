-- Fields that are chosen by names of the header.
use Rattle.std.specs.Prelude.{◌≡◌, ◌==◌, ℕ, Bool, List, [], ◌∷◌, ◌++◌, slice_set, codes, Option, None}
use Rattle.std.specs.Prelude.{Some, Result, Ok, Err}
use Rattle.std.specs.List.{position}
use Rattle.std.specs.Borrow.{Bor}
use Rattle.std.specs.Io.KnownBytes.{Keeps}
use Rattle.std.specs.declared.io.ErrorKind.{ErrorKind}
use Rattle.regroup_faults.specs.Notation.{NotationData}
use Rattle.regroup_faults.specs.Messages.{shown_name}
use Rattle.regroup_faults.specs.Quoting.{quoted}
use Rattle.regroup_lines.specs.Ended.{line}
use Rattle.regroup_lines.specs.Header.{IsHeader, Misnamed, number_named}
use Rattle.regroup_lines.specs.Header.Misnamed.{Doubled, Unknown}
use Rattle.regroup_lines.specs.Places.{one_field}
use Rattle.regroup_lines.specs.Sending.{Writer, by_writer}
use Rattle.regroup_lines.specs.declared.rules.FieldRange.{FieldRange}
use Rattle.regroup_lines.specs.declared.rules.Fields.{Fields}
use Rattle.regroup_lines.specs.declared.rules.Rules.{Rules}
use Rattle.regroup_lines.specs.declared.rules.Span.{Span}
use Rattle.regroup_lines.specs.declared.rules.Span.TheVariants as span
use Rattle.regroup_stream.specs.Ending.{Finishes, SendsMessage}
use Rattle.regroup_stream.specs.Ending.End.{ReadFailed}
use Rattle.regroup_stream.specs.Stream.{Runs}

-- the fields, if some of them are chosen by names
abbrev pub fields_by_name : Span → (names : List (List ℕ)) → Option Fields
fields_by_name span.Line names = None
fields_by_name span.Trimmed names = None
fields_by_name (span.Fields fields) [] = None
fields_by_name (span.Fields fields) (name ∷ names) = Some fields

-- what follows from a number, or why there is none
abbrev pub with_number : {A : Type 0} → Result ℕ Misnamed → (ℕ → Result A Misnamed) → Result A Misnamed
with_number (Ok number) next = next number
with_number (Err misnamed) next = Err misnamed

-- whether a range is in place of a name
abbrev pub is_named_later : FieldRange → Bool
is_named_later range = range.first == 0

-- ranges with this one at a place, or after them if there is none
abbrev pub with_range_at : Option ℕ → FieldRange → List FieldRange → List FieldRange
with_range_at None range list = list ++ range ∷ []
with_range_at (Some place) range list = slice_set list place range

-- ranges with this one in place of the first that is in place of a name
abbrev pub with_field : FieldRange → List FieldRange → List FieldRange
with_field field list = with_range_at (position is_named_later list) field list

-- ranges with the fields of a header that have these names in turn, or the first name that is not that of one field
abbrev pub ranges_named : Fields → (header : List ℕ) → List FieldRange → (names : List (List ℕ)) → Result (List FieldRange) Misnamed
ranges_named fields header list [] = Ok list
ranges_named fields header list (name ∷ names) =
    with_number (number_named fields header name) (λ number. ranges_named fields header (with_field (one_field number) list) names)

-- the message that shows a name, with what is wrong with it, and the header of an input
abbrev pub name_message : (input name cause header : List ℕ) → List ℕ
name_message input name cause header =
    line (codes "regroup-lines: " ++ (shown_name input ++ (codes ":1: " ++ (quoted name ++ (cause ++ quoted header)))))

-- that of a name that is not that of one field
abbrev pub misnamed_message : (input header : List ℕ) → Misnamed → List ℕ
misnamed_message input header (Unknown name) = name_message input name (codes " names no field of ") header
misnamed_message input header (Doubled name) = name_message input name (codes " names more than one field of ") header

-- rules by which these fields are chosen
abbrev pub with_list : Rules → Fields → Bor (List FieldRange) → Rules
with_list rules fields list = record rules { span = span.Fields (record fields { list = list }) }

-- what the program does with an input where fields may have names: where some have, and each is that of one field of the header, it
-- regroups the lines of the same bytes with these fields chosen too; else it says which name is not; or a read of the header failed, or
-- there is no memory for it
pub data RunsNamed (rules : Rules) (names : List (List ℕ)) (from to : NotationData) (name : List ℕ) : (status : ℕ)
    → (read_old : Option (List ℕ)) → (old new : Writer → Option (List ℕ)) → (held_old held_new : Writer → List ℕ) → Type 0 where
  unnamed : (status : ℕ) (read_old : Option (List ℕ)) (old new : Writer → Option (List ℕ)) (held_old held_new : Writer → List ℕ) →
      fields_by_name rules.span names ≡ None → Runs rules from to name status read_old old new held_new →
      RunsNamed rules names from to name status read_old old new held_old held_new
  named : (status : ℕ) (read_old read : Option (List ℕ)) (old new : Writer → Option (List ℕ)) (held_old held_new : Writer → List ℕ)
      (fields : Fields) (header : List ℕ) (list : Bor (List FieldRange)) → fields_by_name rules.span names ≡ Some fields →
      IsHeader rules read_old header → ranges_named fields header fields.list.now names ≡ Ok list.now → Keeps read_old read →
      Runs (with_list rules fields list) from to name status read old new held_new →
      RunsNamed rules names from to name status read_old old new held_old held_new
  misnamed : (status : ℕ) (read_old out err_old err_new rejects : Option (List ℕ)) (held : Writer → List ℕ) (fields : Fields)
      (header : List ℕ) (fault : Misnamed) → fields_by_name rules.span names ≡ Some fields → IsHeader rules read_old header →
      ranges_named fields header fields.list.now names ≡ Err fault →
      SendsMessage (misnamed_message name header fault) 2 status err_old err_new →
      RunsNamed rules names from to name status read_old (by_writer out err_old rejects) (by_writer out err_new rejects) held held
  unread : (status : ℕ) (read_old out err_old err_new rejects : Option (List ℕ)) (held : Writer → List ℕ) (fields : Fields)
      (failure : Option ErrorKind) → fields_by_name rules.span names ≡ Some fields →
      Finishes name (ReadFailed failure) status err_old err_new →
      RunsNamed rules names from to name status read_old (by_writer out err_old rejects) (by_writer out err_new rejects) held held
  no_memory : (read_old : Option (List ℕ)) (all : Writer → Option (List ℕ)) (held : Writer → List ℕ) (fields : Fields) →
      fields_by_name rules.span names ≡ Some fields → RunsNamed rules names from to name 3 read_old all all held held
