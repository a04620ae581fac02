use Rattle.num_format_writers.proofs.WritingLemmas.{Writes_err}
use Rattle.num_format_writers.proofs.write_formatted.CursorVecU8WriteFormatted.write_formatted.Goals as goal

pub returns-in_err-write-clause-writes : goal.returns-in_err-write-clause-writes
returns-in_err-write-clause-writes g c =
    Writes_err c.from_residual.result (g.F.Format.answers c.args.format.now) (g.N.Sealed.value c.args.n.now) c.from_residual.ensures.0
