use Rattle.num_format_locale.proofs.NameLemmas.{order}
use Rattle.num_format_locale.proofs.laws.name_order.Goals as goal

pub returns : goal.returns
returns c = order
