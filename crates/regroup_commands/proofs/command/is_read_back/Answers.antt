use Rattle.regroup_commands.proofs.CertificateLemmas.{is_read_back_from_reads_back}
use Rattle.regroup_commands.proofs.command.is_read_back.Goals as goal

pub returns : goal.returns
returns c = is_read_back_from_reads_back _ _ c.locale_round_trips.ensures c.reads_back.ensures
