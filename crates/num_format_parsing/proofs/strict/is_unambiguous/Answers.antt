use Rattle.std.proofs.Common.{refl}
use Rattle.num_format_parsing.proofs.CommonLemmas.{unambiguous_from_common}
use Rattle.num_format_parsing.proofs.strict.is_unambiguous.Goals as goal

pub returns-then-has_common_symbols : goal.returns-then-has_common_symbols
returns-then-has_common_symbols g c = (
  λ _. unambiguous_from_common _ (c.has_common_symbols.ensures c.if-has_common_symbols.true),
  λ _. refl,
)
