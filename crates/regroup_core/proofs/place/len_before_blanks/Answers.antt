use Rattle.regroup_core.proofs.PlaceLemmas.{len-found}
use Rattle.regroup_core.proofs.place.len_before_blanks.Goals as goal

pub returns-clause-value : goal.returns-clause-value
returns-clause-value c = len-found c.args.text.now c.trim_ascii_end.result.now c.trim_ascii_end.ensures.value
