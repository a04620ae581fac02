use Rattle.std.proofs.Common.{◌-◌, arith}
use Rattle.std.proofs.lemmas.Result.{err_from_is_err_and}
use Rattle.uses_ledger.proofs.ReportLemmas.{stops_in_spaces}
use Rattle.uses_ledger.proofs.report.write_spaces.Goals as goal

pub returns-in_err-write_whole-clause-prefix : goal.returns-in_err-write_whole-clause-prefix
returns-in_err-write_whole-clause-prefix g c =
    let old = g.W.Write.contents c.args.w.now in
    let before = g.W.Write.contents c.loop.w in
    let new = g.W.Write.contents c.write_whole.new.w in
    let p = err_from_is_err_and c.from_residual.result c.from_residual.ensures.1 in
    rw p.1 (stops_in_spaces c.args.count c.loop.counter (c.args.count - c.loop.counter - 1) old before new
    (omega arith) c.loop.invariant c.in_err-write_whole.ensures.prefix)
