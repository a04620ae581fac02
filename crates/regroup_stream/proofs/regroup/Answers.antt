use Rattle.std.proofs.Common.{ap, ◌∙◌}
use Rattle.regroup_stream.specs.Ending.{end_after, end_of}
use Rattle.regroup_stream.proofs.StreamLemmas.{RegroupsAll-flushed}
use Rattle.regroup_stream.proofs.regroup.Goals as goal

pub returns : goal.returns
returns g c =
    rw (← c.notation-from.ensures, ← c.notation-to.ensures) (RegroupsAll-flushed _ _ _ _ _ _ _ _ _ _ _ _ _ _ c.new-input.ensures c.regroup_at_most-regrouped.ensures c.flush-unflushed.ensures.bytes
    c.flush-rejects_unflushed.ensures.bytes (end_of c.after.result) _ _ c.flush-unflushed.result c.flush-rejects_unflushed.result
    (c.after.ensures ∙ ap (end_after c.flush-unflushed.result c.flush-rejects_unflushed.result) c.ending_of-ending.ensures)
    c.flush-unflushed.ensures.empty c.flush-rejects_unflushed.ensures.empty)
