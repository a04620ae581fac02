use Rattle.std.proofs.lemmas.Result.{err_from_is_err_and}
use Rattle.num_format_writers.proofs.WritingLemmas.{StopsWithin_suffix}
use Rattle.test_printing.proofs.callers.write_both.Goals as goal

pub returns-in_err-read_to_io_writer-2-clause-prefix : goal.returns-in_err-read_to_io_writer-2-clause-prefix
returns-in_err-read_to_io_writer-2-clause-prefix g c =
    let p = err_from_is_err_and c.from_residual-in_err-read_to_io_writer-2.result c.from_residual-in_err-read_to_io_writer-2.ensures.1 in
    rw p.1 (StopsWithin_suffix _ _ _ _ _ c.in_ok-read_to_io_writer.ensures.writes.whole c.in_err-read_to_io_writer-2.ensures.writes.prefix)
