use Rattle.std.proofs.lemmas.List.Elements.{Contains-append_right}
use Rattle.num_format_parsing.specs.Symbols.{marked_signs, short_signs}
use Rattle.num_format_parsing.proofs.symbols.is_locale_sign.Goals as goal

pub returns : goal.returns
returns c = λ yes. Contains-append_right short_signs marked_signs c.args.text.now (c.is_marked_sign.ensures yes)
