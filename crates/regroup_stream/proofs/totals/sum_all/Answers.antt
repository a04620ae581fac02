use Rattle.std.proofs.Common.{ap, subst, sym, ◌∙◌}
use Rattle.std.specs.Result.{result_ok}
use Rattle.num_format_decimal.specs.Marks.{MarksDecimals}
use Rattle.regroup_stream.specs.SumAll.{IsAmbiguous, SumsAll}
use Rattle.regroup_stream.proofs.totals.sum_all.Goals as goal

pub returns-in_default-new : goal.returns-in_default-new
returns-in_default-new g c = SumsAll.ambiguous _ _ (subst IsAmbiguous (ap result_ok c.in-Ok.ensures)
    (subst (λ n. ¬ (MarksDecimals n.format)) (c.reading.view_is ∙ c.latin.ensures) c.in_default-new.ensures.1))

pub returns : goal.returns
returns g c =
    let same = c.reading.view_is ∙ c.latin.ensures in
    rw c.max.ensures (SumsAll.sums _ _ _ _ _ _ _ _ _ _ _ _ _ _ (ap result_ok (sym c.in-Ok.ensures))
    (rw same at c.read_total-status.ensures) (rw same at c.end_total-ended.ensures))
