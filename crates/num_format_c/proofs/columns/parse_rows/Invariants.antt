use Rattle.std.proofs.Common.{◌≡◌, ℕ, ◌≤◌, length}
use Rattle.num_format_c.specs.Columns.{AreParsed, to_parsed}
use Rattle.num_format_c.specs.Layout.{row_bytes}
use Rattle.num_format_c.specs.declared.format.NumFormat.{NumFormat}
use Rattle.num_format_c.proofs.columns.parse_rows.Given as goal

abbrev pub invariant-loop-row : goal.invariant-loop-row
invariant-loop-row g l = record {
  length : length l.values ≡ length l.initial.values;
  parsed : (s : NumFormat) → g.P.Parser.IsFor l.parser s →
      AreParsed (g.P.Parser.Returns l.parser) g.T.IntoValue.number g.N.Value.repr l.offset_type s l.texts
      (to_parsed l.initial.values l.initial.statuses) (to_parsed l.values l.statuses) l.row;
  left : (k : ℕ) → l.row ≤ k → row_bytes g.N.Value.repr.size l.values k ≡ row_bytes g.N.Value.repr.size l.initial.values k;
}
