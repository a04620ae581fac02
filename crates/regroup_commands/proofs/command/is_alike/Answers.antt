use Rattle.regroup_commands.proofs.CertificateLemmas.{is_alike_from_prints_alike}
use Rattle.regroup_commands.proofs.command.is_alike.Goals as goal

pub returns : goal.returns
returns c = is_alike_from_prints_alike _ _ _ c.alike.ensures c.prints_alike.ensures
