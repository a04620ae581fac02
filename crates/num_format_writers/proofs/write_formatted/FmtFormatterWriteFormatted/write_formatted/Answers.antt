use Rattle.num_format_writers.proofs.WritingLemmas.{Writes_err}
use Rattle.num_format_writers.proofs.write_formatted.FmtFormatterWriteFormatted.write_formatted.Goals as goal

pub returns-in_err-write_str-clause-writes : goal.returns-in_err-write_str-clause-writes
returns-in_err-write_str-clause-writes g c =
    Writes_err c.from_residual.result (g.F.Format.answers c.args.format.now) (g.N.Sealed.value c.args.n.now) c.from_residual.ensures.0
