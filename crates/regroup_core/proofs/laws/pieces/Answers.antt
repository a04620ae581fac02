use Rattle.regroup_core.proofs.PieceLemmas.{pieces_law}
use Rattle.regroup_core.proofs.laws.pieces.Goals as goal

pub returns : goal.returns
returns c = pieces_law
