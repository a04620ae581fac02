use Rattle.regroup_core.proofs.AddLemmas.{extends-later}
use Rattle.std.proofs.lemmas.Result.{err_from_is_err_and}
use Rattle.regroup_core.proofs.text.append_all.Goals as goal

pub returns-in_err-append_part : goal.returns-in_err-append_part
returns-in_err-append_part c =
    let p = err_from_is_err_and c.from_residual.result c.from_residual.ensures.1 in
    rw p.1 (extends-later _ c.loop-part.out.items _ _ c.loop-part.invariant c.in_err-append_part.ensures)
