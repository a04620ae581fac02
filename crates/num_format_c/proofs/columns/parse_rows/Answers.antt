use Rattle.std.proofs.Common.{◌≡◌, ◌∙◌, ◌+◌, IsTrue, pos, slice_index_or, slice_set, slice_range, w32, of_z, to_z, arith, rules}
use Rattle.std.proofs.lemmas.List.{get_or-set_other, get_or-set_same}
use Rattle.num_format_c.specs.Columns.{ParsesRow}
use Rattle.num_format_c.specs.Layout.{is_valid, offset_at, row_bytes}
use Rattle.num_format_c.proofs.LayoutLemmas.{row_more}
use Rattle.num_format_c.proofs.columns.parse_rows.Goals as goal

pub loop-row-preserved : goal.loop-row-preserved
loop-row-preserved g c =
    let v = g.N.Value.repr in
    let row = c.loop-row.row in
    let status = c.parse_row.result in
    let offset = offset_at c.args.offset_type c.args.texts.now.offsets.now in
    let is_status : to_z w32 (of_z w32 status) ≡ status = search rules in
    let prior = c.loop-row.invariant.left row (omega arith) in
    record {
      length = omega arith;
      parsed = λ s given.
          rw is_status
          (row_more
          (λ k new status. ParsesRow (g.P.Parser.Returns c.args.parser.now) g.T.IntoValue.number v
          (IsTrue (is_valid c.args.texts.now.validity k)) s
          (slice_range c.args.texts.now.bytes.now (offset k) (offset (k + 1))) (row_bytes v.size c.args.values.now k) new status)
          (row_bytes v.size c.loop-row.values) (row_bytes v.size c.parse_row.new.values) (λ k. slice_index_or c.loop-row.statuses k (pos 0))
          (λ k. slice_index_or (slice_set c.loop-row.statuses row status) k (pos 0)) row
          (c.loop-row.invariant.parsed s given)
          (rw (
            get_or-set_same c.loop-row.statuses row status (pos 0) (omega arith),
            ← prior,
            ← c.is_valid-is_valid.ensures,
            ← c.get-start.ensures,
            ← c.get.ensures,
          ) (c.parse_row.ensures.parsed s given))
          c.parse_row.ensures.others
          (λ k other. get_or-set_other c.loop-row.statuses row k status (pos 0) other));
      left = λ k le. c.parse_row.ensures.others k (λ same. absurd (omega (arith, same, le)))
          ∙ c.loop-row.invariant.left k (omega (arith, le));
    }

pub returns : goal.returns
returns g c = λ s given k under. c.loop-row.invariant.parsed s given k (omega (arith, under))
