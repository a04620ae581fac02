use Rattle.regroup_stream.proofs.SplitLemmas.{split_last_from_rsplit_once}
use Rattle.regroup_stream.proofs.words.split_last.Goals as goal

pub returns : goal.returns
returns c = split_last_from_rsplit_once c.args.text.now c.rsplit_once.result c.rsplit_once.ensures.cases
