use Rattle.regroup_commands.proofs.CertificateLemmas.{alike-Decides}
use Rattle.regroup_commands.proofs.laws.alike.Goals as goal

pub returns : goal.returns
returns c = λ f g. alike-Decides f g c.alike.ensures
