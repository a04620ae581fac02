use Rattle.num_format_locale.proofs.NameLemmas.{unique}
use Rattle.num_format_locale.proofs.laws.spelled_once.Goals as goal

pub returns : goal.returns
returns c = unique
