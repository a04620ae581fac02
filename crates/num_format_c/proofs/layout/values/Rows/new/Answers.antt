use Rattle.std.proofs.Common.{sym}
use Rattle.num_format_c.proofs.LayoutLemmas.{whole_rows}
use Rattle.num_format_c.proofs.layout.values.Rows.new.Goals as goal

pub invariant_of-result : goal.invariant_of-result
invariant_of-result g c = record {
  whole = whole_rows g.N.Value.repr c.args.values.now.bytes.now c.args.values.now.validity c.in-Some.len (sym c.in-Some.ensures);
}
