use Rattle.regroup_lines.proofs.SplitLemmas.{split_law}
use Rattle.regroup_lines.proofs.laws.split.Goals as goal

pub returns : goal.returns
returns c = split_law
