use Rattle.regroup_lines.proofs.Common.{Err, Ok, refl, err_from_is_err_and, fault_of}
use Rattle.regroup_lines.proofs.UnnamedLemmas.{Regroups-naming_none}
use Rattle.regroup_lines.proofs.regroup_lines.Goals as goal

pub returns-in_err-summary : goal.returns-in_err-summary
returns-in_err-summary g c =
    let fault = c.in_err-summary.field-0.0 in
    let p = err_from_is_err_and c.from_residual.result c.from_residual.ensures.1 in
    rw (p.1, p.2, ← c.latin.ensures, ← c.latin-2.ensures) (Regroups-naming_none _ _ _ _ _ _ _ _ _ (Err (fault_of fault)) refl c.in_err-summary.ensures)

pub returns : goal.returns
returns g c =
    rw (← c.latin.ensures, ← c.latin-2.ensures) (Regroups-naming_none _ _ _ _ _ _ _ _ _ (Ok c.in_ok-summary.summary) refl
    c.in_ok-summary.ensures)
