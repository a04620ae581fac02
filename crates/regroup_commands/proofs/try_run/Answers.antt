use Rattle.std.proofs.Common.{rules}
use Rattle.regroup_commands.specs.Request.{request_in, texts}
use Rattle.regroup_commands.proofs.SendingLemmas.{SendsOutput_usage}
use Rattle.regroup_commands.proofs.try_run.Goals as goal

pub returns-in-None : goal.returns-in-None
returns-in-None g c =
    SendsOutput_usage _ (request_in (texts c.args.args.now)) _ _ _ _ c.send_line.result (search rules) (search rules) (search rules)
    (search rules)
