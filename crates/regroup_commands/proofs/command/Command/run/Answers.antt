use Rattle.num_format.specs.Refusal.{refusal_of}
use Rattle.regroup_commands.proofs.SendingLemmas.{SendsOutput_lines, SendsOutput_message}
use Rattle.regroup_commands.proofs.command.Command.run.Goals as goal

pub returns-in-Ok : goal.returns-in-Ok
returns-in-Ok g c = SendsOutput_lines _ _ _ _ _ c.in-Ok.sent c.in-Ok.ensures.sent c.and.ensures

pub returns-in-Err : goal.returns-in-Err
returns-in-Err g c =
    SendsOutput_message _ _ _ _ _ _ c.send_error.result (refusal_of c.in-Err.error) c.in-Err.ensures.refused c.in-Err.ensures.unsent
    c.send_error.ensures c.and-in-Err.ensures
