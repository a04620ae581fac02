use Rattle.regroup_core.proofs.AddLemmas.{extends-later}
use Rattle.std.proofs.lemmas.Result.{err_from_is_err_and}
use Rattle.regroup_core.proofs.text.append_doubled.Goals as goal

pub returns-in_err-append_byte : goal.returns-in_err-append_byte
returns-in_err-append_byte c =
    let p = err_from_is_err_and c.from_residual.result c.from_residual.ensures.1 in
    rw p.1 (extends-later _ c.loop-byte.out.items _ _ c.loop-byte.invariant c.in_err-append_byte.ensures)
