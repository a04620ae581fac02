use Rattle.regroup_commands.proofs.CertificateLemmas.{read_back-Decides}
use Rattle.regroup_commands.proofs.laws.read_back.Goals as goal

pub returns : goal.returns
returns c = λ f sign separator. read_back-Decides f c.round_trips.ensures sign separator
