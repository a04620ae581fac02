use Rattle.std.proofs.Common.{refl}
use Rattle.regroup_stream.specs.SumAll.{Ends}
use Rattle.regroup_stream.proofs.totals.end_total.Goals as goal

pub returns-in-Ok-Some : goal.returns-in-Ok-Some
returns-in-Ok-Some g c =
    rw (c.in-Ok-Some.is, c.in-Ok-Some.field-0-is) (Ends.written _ _ _ _ _ _ _ refl
    (rw (c.sum_rules-rules.ensures, c.as_slice-text.ensures.value) at c.run.ensures))

pub returns-in-Ok-None : goal.returns-in-Ok-None
returns-in-Ok-None g c = rw (c.in-Ok-None.is, c.in-Ok-None.field-0-is) (Ends.none _ _)

pub returns-in-Err : goal.returns-in-Err
returns-in-Err g c = rw c.in-Err.is (Ends.unsummed _ _ _ _ _ _ _ c.end_unsummed.ensures)
