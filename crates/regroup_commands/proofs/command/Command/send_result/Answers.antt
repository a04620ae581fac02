use Rattle.regroup_commands.proofs.NameLemmas.{names_fit}
use Rattle.regroup_commands.proofs.command.Command.send_result.Goals as goal

pub send_lines-requires : goal.send_lines-requires
send_lines-requires g c = names_fit _ c.available_names.ensures.listed
