use Rattle.std.proofs.lemmas.List.Elements.{Contains-append_left, Contains-append_right}
use Rattle.std.specs.Prelude.{◌++◌}
use Rattle.num_format_parsing.specs.Symbols.{locale_separators}
use Rattle.num_format_typed.specs.Typed.{ascii_separators, usual_marks}
use Rattle.num_format_typed.proofs.symbols.is_usual_separator.Goals as goal

pub returns-then-is_locale_separator : goal.returns-then-is_locale_separator
returns-then-is_locale_separator c = λ yes. Contains-append_right usual_marks (locale_separators ++ ascii_separators) c.args.text.now
    (Contains-append_left locale_separators ascii_separators c.args.text.now (c.is_locale_separator.ensures c.if-is_locale_separator.true))

pub returns : goal.returns
returns c = λ yes. Contains-append_right usual_marks (locale_separators ++ ascii_separators) c.args.text.now
    (Contains-append_right locale_separators ascii_separators c.args.text.now (c.is_ascii_separator.ensures yes))
