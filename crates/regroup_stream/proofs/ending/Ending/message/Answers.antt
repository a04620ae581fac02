use Rattle.regroup_stream.proofs.ending.Ending.message.Goals as goal

pub returns-in-Unopened : goal.returns-in-Unopened
returns-in-Unopened c = rw c.in-Unopened.is c.failure_message-in-Unopened.ensures
