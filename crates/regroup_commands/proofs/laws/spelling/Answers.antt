use Rattle.regroup_commands.proofs.LocaleLemmas.{is_spelling-Decides}
use Rattle.regroup_commands.proofs.laws.spelling.Goals as goal

pub returns : goal.returns
returns c = is_spelling-Decides
