use Rattle.num_format_affixes.proofs.OwnLemmas.{own_text}
use Rattle.num_format_affixes.proofs.laws.numbers_kept.Goals as goal

pub returns : goal.returns
returns c = own_text
