use Rattle.num_format_typed.proofs.LawLemmas.{printed-at_scale, printed-decimal}
use Rattle.num_format_typed.proofs.laws.printed_decimals.Goals as goal

pub returns-clause-any_scale : goal.returns-clause-any_scale
returns-clause-any_scale c = printed-decimal

pub returns-clause-at_scale : goal.returns-clause-at_scale
returns-clause-at_scale c = printed-at_scale
