use Rattle.regroup_stream.specs.Inputs.{RunsOne}
use Rattle.regroup_stream.proofs.inputs.run_one.Goals as goal

pub returns-in-Ok : goal.returns-in-Ok
returns-in-Ok g c = rw c.reads_on-is_taken.ensures (RunsOne.read _ _ _ _ _ _ (rw c.in-Ok.is at c.open.ensures) c.run_named-status.ensures)

pub returns-in-Err-CannotOpen : goal.returns-in-Err-CannotOpen
returns-in-Err-CannotOpen g c =
    let why = c.in-Err-CannotOpen.field-0-is in
    RunsOne.unread _ _ _ _ _ _ _ (rw (c.in-Err-CannotOpen.is, why) at c.open.ensures) (rw (← c.in-Err-CannotOpen.kind-is) c.refuse.ensures)

pub returns-in-Err-IsOutput : goal.returns-in-Err-IsOutput
returns-in-Err-IsOutput g c =
    let why = c.in-Err-IsOutput.field-0-is in
    RunsOne.unread _ _ _ _ _ _ _ (rw (c.in-Err-IsOutput.is, why) at c.open.ensures) c.refuse_output.ensures
