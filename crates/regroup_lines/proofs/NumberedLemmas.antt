-- What is written in place of a line depends on the line's number in the fault alone.
use Rattle.regroup_lines.proofs.Common.{failed_writer, Bool, Err, Fault, FewFields, Field, FieldNotText, Fields, FixedPoint, NotationData}
use Rattle.regroup_lines.proofs.Common.{Line, List, MARK, None, NotText, Ok, Option, ParseNumber, Reading, Refusal, Result, Rules}
use Rattle.regroup_lines.proofs.Common.{Some, Span, TooMany, [], after, ap, are_enough, between, body_written, cases_Bool, chosen_replaced}
use Rattle.regroup_lines.proofs.Common.{FieldRange, all_written, followed, line_ended}
use Rattle.regroup_faults.specs.declared.fault.FieldCount.{FieldCount}
use Rattle.regroup_lines.specs.Places.{count_after, listed}
use Rattle.regroup_lines.proofs.Common.{cut_text, inl, inr, decimal_written, drop, false}
use Rattle.regroup_lines.proofs.Common.{field_count, field_read, field_with, field_written, fields_of, fields_written, if◌then◌else◌}
use Rattle.regroup_lines.proofs.Common.{header_written, in_field, is_barred, is_chosen_field, is_utf8, join_with_byte, length, list_any}
use Rattle.regroup_lines.proofs.Common.{decimal_in, nat_le, number_of, number_place, number_text, read_by}
use Rattle.regroup_lines.proofs.Common.{number_written, numbers_replaced, ok_or, option_map, output_delimiter, passes_mark}
use Rattle.regroup_lines.proofs.Common.{place_written, refl, result_map_both, slice_range, take, text_fault, trimmed, true}
use Rattle.regroup_lines.proofs.Common.{unmarked_written, without_affixes}
use Rattle.regroup_lines.proofs.Common.{with_first, ℕ, ◌&&◌, ◌++◌, ◌==◌, ◌∙◌, ◌∷◌, ◌≡◌}
use Rattle.regroup_lines.specs.declared.rules.Span.TheVariants as span

-- the same fault of a text, in the line of this number
abbrev pub with_number : ℕ → Fault → Fault
with_number n (NotText m) = NotText n
with_number n (FieldNotText m k) = FieldNotText n k
with_number n (Line m refusal) = Line n refusal
with_number n (Field m k refusal) = Field n k refusal
with_number n (FewFields m count) = FewFields n count
with_number n fault = TooMany

abbrev pub numbered : {T : Type 0} → ℕ → Result T Fault → Result T Fault
numbered n written = result_map_both (λ text. text) (with_number n) written

-- it is no failed write
pub with_number-sent : (n : ℕ) (fault : Fault) → failed_writer (with_number n fault) ≡ None
with_number-sent n (NotText m) = refl
with_number-sent n fault = refl

in_field-numbered : (n k : ℕ) (fault : Fault) → in_field k (with_number n fault) ≡ with_number n (in_field k fault)
in_field-numbered n k (NotText m) = refl
in_field-numbered n k fault = refl

mapped : {T U : Type 0} (n : ℕ) (f : T → U) (g : Fault → Fault) → ((fault : Fault) → g (with_number n fault) ≡ with_number n (g fault))
    → (written : Result T Fault) →
    result_map_both f g (numbered n written) ≡ numbered n (result_map_both f g written)
mapped n f g same (Ok text) = refl
mapped n f g same (Err fault) = ap Err (same fault)

first : (n : ℕ) (x : Result (List ℕ) Fault) (xs : Result (List (List ℕ)) Fault)
    → with_first (numbered n x) (numbered n xs) ≡ numbered n (with_first x xs)
first n (Ok text) (Ok texts) = refl
first n (Ok text) (Err fault) = refl
first n (Err fault) xs = refl

-- either of two
either : {T : Type 0} (n : ℕ) (is : Bool) (a b c d : Result T Fault) → a ≡ numbered n b → c ≡ numbered n d
    → (if is then a else c) ≡ numbered n (if is then b else d)
either n true a b c d one other = one
either n false a b c d one other = other

module _ (rules : Rules) (from to : NotationData) (n m : ℕ) where
  of_text : (o : Option (List ℕ)) (refusal : Refusal) → ok_or o (Line n refusal) ≡ numbered n (ok_or o (Line m refusal))
  of_text (Some text) refusal = refl
  of_text None refusal = refl

  by_decimal : (decimal : Option FixedPoint) (text : List ℕ)
      → decimal_written decimal to n text ≡ numbered n (decimal_written decimal to m text)
  by_decimal decimal text = either n (is_utf8 text) _ _ (Err (NotText n)) (Err (NotText m))
      (of_text (option_map (number_text to) decimal) (ParseNumber (cut_text text))) refl

  number : (reading : Reading) (text : List ℕ) → number_written reading from to n text ≡ numbered n (number_written reading from to m text)
  number reading text = by_decimal (decimal_in (read_by reading) from text) text

  fault : (text : List ℕ) → text_fault n text ≡ with_number n (text_fault m text)
  fault text = elim (cases_Bool (is_utf8 text)) [ inl is ↦ rw is refl | inr other ↦ rw other refl ]

  place : (text : List ℕ) (at : ℕ × ℕ) → place_written rules from to n text at ≡ numbered n (place_written rules from to m text at)
  place text at =
      let bytes = slice_range text at.0 at.1 in
      either n (rules.passes_empty && (at.0 == at.1)) (Ok text) (Ok text) _ _ refl
      (ap (between (take at.0 text) (drop at.1 text)) (number rules.reading bytes)
      ∙ mapped n (λ number. take at.0 text ++ (number ++ drop at.1 text)) (λ fault. fault) (λ fault. refl)
      (number_written rules.reading from to m bytes))

  read : (quotes : Bool) (field : List ℕ) → field_read rules quotes from to n field ≡ numbered n (field_read rules quotes from to m field)
  read quotes field =
      let at = without_affixes rules.affixes field (number_place quotes field) in
      let text = slice_range field at.0 at.1 in
      either n (rules.passes_empty && (at.0 == at.1)) (Ok None) (Ok None) _ _ refl
      (either n (quotes && list_any (is_barred rules.line_end) text) (Err (text_fault n text)) (Err (text_fault m text)) _ _
      (ap Err (fault text))
      (ap (result_map_both (λ text. Some (at, text)) (λ fault. fault)) (number rules.reading text)
      ∙ mapped n (λ text. Some (at, text)) (λ fault. fault) (λ fault. refl) (number_written rules.reading from to m text)))

  one_field : (fields : Fields) (k : ℕ) (field : List ℕ)
      → field_written rules fields from to n k field ≡ numbered n (field_written rules fields from to m k field)
  one_field fields k field =
      let as_read = field_with fields rules.line_end field in
      either n (is_chosen_field fields.list.now fields.blanks k field) _ _ (Ok (as_read None)) (Ok (as_read None))
      (ap (result_map_both as_read (in_field k)) (read fields.quotes field) ∙ mapped n as_read (in_field k) (in_field-numbered n k)
      (field_read rules fields.quotes from to m field)) refl

  all_fields : (fields : Fields) (before : ℕ) (texts : List (List ℕ))
      → fields_written rules fields from to n before texts ≡ numbered n (fields_written rules fields from to m before texts)
  all_fields fields before [] = either n (are_enough fields.list.now before) (Ok []) (Ok [])
      (Err (FewFields n (field_count fields.delimiter fields.list.now before)))
      (Err (FewFields m (field_count fields.delimiter fields.list.now before))) refl refl
  all_fields fields before (text ∷ texts) =
      let k = number_of fields.blanks before text in
      ap (λ x. with_first x (fields_written rules fields from to n k texts)) (one_field fields k text)
      ∙ ap (with_first (numbered n (field_written rules fields from to m k text))) (all_fields fields k texts)
      ∙ first n (field_written rules fields from to m k text) (fields_written rules fields from to m k texts)

  of_fields : (fields : Fields) (f : List (List ℕ) → List ℕ) (text : List ℕ) →
      result_map_both f (λ fault. fault) (fields_written rules fields from to n 0 (fields_of fields text))
      ≡ numbered n (result_map_both f (λ fault. fault) (fields_written rules fields from to m 0 (fields_of fields text)))
  of_fields fields f text =
      ap (result_map_both f (λ fault. fault)) (all_fields fields 0 (fields_of fields text))
      ∙ mapped n f (λ fault. fault) (λ fault. refl) (fields_written rules fields from to m 0 (fields_of fields text))

  all_items : (fields : Fields) (items : List (ℕ × List ℕ))
      → all_written rules fields from to n items ≡ numbered n (all_written rules fields from to m items)
  all_items fields [] = refl
  all_items fields (item ∷ items) =
      ap (λ x. with_first x (all_written rules fields from to n items)) (one_field fields item.0 item.1)
      ∙ ap (with_first (numbered n (field_written rules fields from to m item.0 item.1))) (all_items fields items)
      ∙ first n (field_written rules fields from to m item.0 item.1) (all_written rules fields from to m items)

  chosen : (fields : Fields) (list : List FieldRange) (text : List ℕ)
      → chosen_replaced fields list rules from to n text ≡ numbered n (chosen_replaced fields list rules from to m text)
  chosen fields list text =
      let joined = join_with_byte (output_delimiter fields) in
      let items = listed list fields.blanks (fields_of fields text) in
      let count = count_after fields.blanks 0 (fields_of fields text) in
      ap (λ x. followed x (line_ended fields n count [])) (ap (result_map_both joined (λ fault. fault)) (all_items fields items)
      ∙ mapped n joined (λ fault. fault) (λ fault. refl) (all_written rules fields from to m items))
      ∙ by (result_map_both joined (λ fault. fault) (all_written rules fields from to m items)) (are_enough fields.list.now count)
      (field_count fields.delimiter fields.list.now count)
    where
      by : (text : Result (List ℕ) Fault) (enough : Bool) (count : FieldCount) →
          followed (numbered n text) (if enough then Ok [] else Err (FewFields n count))
          ≡ numbered n (followed text (if enough then Ok [] else Err (FewFields m count)))
      by (Ok text) true count = refl
      by (Ok text) false count = refl
      by (Err fault) enough count = refl

  numbers : (where_is : Span) (text : List ℕ) → numbers_replaced where_is rules from to n text
      ≡ numbered n (numbers_replaced where_is rules from to m text)
  numbers span.Line text = place text (0, length text)
  numbers span.Trimmed text = place text (without_affixes rules.affixes text (trimmed text (0, length text)))
  numbers (span.Fields fields) text =
      either n fields.only _ _ _ _ (chosen fields fields.list.now text) (of_fields fields (join_with_byte (output_delimiter fields)) text)

  -- but a byte order mark
  pub body-numbered : (text : List ℕ) → nat_le n rules.header_lines ≡ nat_le m rules.header_lines
      → passes_mark rules.span n text ≡ passes_mark rules.span m text →
      body_written rules from to n text ≡ numbered n (body_written rules from to m text)
  body-numbered text headers marks =
      let rest = drop (length MARK) text in
      let unmarked : (text : List ℕ) → unmarked_written rules from to n text ≡ numbered n (unmarked_written rules from to m text) =
      λ text. rw headers (either n (nat_le m rules.header_lines) (Ok (header_written rules.span rules.line_end text))
      (Ok (header_written rules.span rules.line_end text)) _ _ refl (numbers rules.span text)) in
      rw marks (either n (passes_mark rules.span m text) _ _ _ _
      (ap (after MARK) (unmarked rest) ∙ mapped n (λ written. MARK ++ written) (λ fault. fault) (λ fault. refl)
      (unmarked_written rules from to m rest)) (unmarked text))
