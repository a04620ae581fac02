use Rattle.num_format_writers.proofs.WritingLemmas.{Writes_failed}
use Rattle.num_format_writers.proofs.write_formatted.CursorRefMutSliceU8WriteFormatted.write_formatted.Goals as goal

pub returns-then-position-get_ref-clause-writes : goal.returns-then-position-get_ref-clause-writes
returns-then-position-get_ref-clause-writes g c = Writes_failed _ (g.F.Format.answers c.args.format.now) (g.N.Sealed.value c.args.n.now)
