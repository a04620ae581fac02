use Rattle.std.proofs.Common.{◌∙◌, sym}
use Rattle.num_format_digits.proofs.PlainLemmas.{one, pair, triple}
use Rattle.num_format_digits.proofs.plain.copy_symbol.Goals as goal

pub returns-then-is_ascii-clause-plain : goal.returns-then-is_ascii-clause-plain
returns-then-is_ascii-clause-plain c = λ _.
    one c.args.text.now c.requires.some (sym c.is_ascii.ensures ∙ c.if-is_ascii.true)

pub returns-then-is_common_pair-clause-plain : goal.returns-then-is_common_pair-clause-plain
returns-then-is_common_pair-clause-plain c = λ _. pair _ (c.is_common_pair.ensures c.if-is_common_pair.true)

pub returns-then-is_common_triple-clause-plain : goal.returns-then-is_common_triple-clause-plain
returns-then-is_common_triple-clause-plain c = λ _. triple _ (c.is_common_triple.ensures c.if-is_common_triple.true)
