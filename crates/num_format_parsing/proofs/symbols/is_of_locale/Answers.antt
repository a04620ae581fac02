use Rattle.num_format_parsing.proofs.SymbolLemmas.{locale-separator, locale-sign}
use Rattle.num_format_parsing.proofs.symbols.is_of_locale.Goals as goal

pub returns-then-is_locale_separator : goal.returns-then-is_locale_separator
returns-then-is_locale_separator c = λ _. locale-separator c.args.symbol.now (c.is_locale_separator.ensures c.if-is_locale_separator.true)

pub returns : goal.returns
returns c = λ yes. locale-sign c.args.symbol.now (c.is_locale_sign.ensures yes)
