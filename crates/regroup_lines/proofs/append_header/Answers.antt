use Rattle.regroup_lines.proofs.Common.{Fields, NotationData, List, None, Ok, Rules, [], ap, field_with}
use Rattle.regroup_lines.proofs.Common.{FieldRange, all_written, append-nil, chosen_replaced, fields_of, fields_written, join_with_byte}
use Rattle.regroup_lines.proofs.Common.{map}
use Rattle.regroup_lines.proofs.Common.{number_of, output_delimiter, refl, result_map_both, ℕ, ◌∷◌, ◌≡◌}
use Rattle.regroup_lines.specs.Places.{listed}
use Rattle.regroup_lines.proofs.append_header.Goals as goal

-- a line of which no field is chosen
module _ (fields : Fields) (none : fields.list.now ≡ []) (rules : Rules) (from to : NotationData) (number : ℕ) where
  unchosen : (before : ℕ) (texts : List (List ℕ)) → fields_written rules fields from to number before texts ≡ Ok
      (map (λ field. field_with fields rules.line_end field None) texts)
  unchosen before [] = rw none refl
  unchosen before (text ∷ texts) = rw (none, unchosen (number_of fields.blanks before text) texts) refl

  as_header : (f : List (List ℕ) → List ℕ) (text : List ℕ) →
      result_map_both f (λ fault. fault) (fields_written rules fields from to number 0 (fields_of fields text))
      ≡ Ok (f (map (λ field. field_with fields rules.line_end field None) (fields_of fields text)))
  as_header f text = ap (result_map_both f (λ fault. fault)) (unchosen 0 (fields_of fields text))

  unread : (items : List (ℕ × List ℕ)) → all_written rules fields from to number items ≡ Ok
      (map (λ field. field_with fields rules.line_end field None) (map (λ item. item.1) items))
  unread [] = refl
  unread (item ∷ items) = rw (none, unread items) refl

  chosen_as_header : (list : List FieldRange) (text : List ℕ) → chosen_replaced fields list rules from to number text
      ≡ Ok (join_with_byte (output_delimiter fields) (map (λ field. field_with fields rules.line_end field None)
      (map (λ item. item.1) (listed list fields.blanks (fields_of fields text)))))
  chosen_as_header list text = rw (unread (listed list fields.blanks (fields_of fields text)), none) (ap Ok (append-nil _))

abbrev without_list : Fields → Fields
without_list fields = record {
  list = record { ref_ptr = (0, 0); now = [] };
  delimiter = fields.delimiter;
  quotes = fields.quotes;
  output = fields.output;
  only = fields.only;
  blanks = fields.blanks;
}

pub returns-then-fields : goal.returns-then-fields
returns-then-fields g c =
    let fields = c.args.fields.now in
    let setup = c.args.setup.now in
    rw c.if-fields.true (rw (chosen_as_header (without_list fields) refl setup.rules.now setup.parser setup.to.now c.args.number
    fields.list.now c.args.line.now) at c.append_chosen.ensures)

pub returns : goal.returns
returns g c =
    let fields = c.args.fields.now in
    let setup = c.args.setup.now in
    rw c.if-fields.false (rw (as_header (without_list fields) refl setup.rules.now setup.parser setup.to.now c.args.number
    (join_with_byte (output_delimiter fields)) c.args.line.now) at c.append_fields.ensures)
