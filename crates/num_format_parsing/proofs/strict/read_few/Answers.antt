use Rattle.std.proofs.Common.{rules, IsUtf8}
use Rattle.std.proofs.lemmas.Str.{IsUtf8-nil}
use Rattle.num_format_text.specs.Characters.{HasCommonSymbols}
use Rattle.num_format_text.specs.Format.{FormatData}
use Rattle.num_format_parsing.specs.Shapes.{HasPlainSymbols}
use Rattle.num_format_parsing.proofs.CommonLemmas.{of_printed, unambiguous_from_common}
use Rattle.num_format_parsing.proofs.SymbolLemmas.{plain-symbols}
use Rattle.num_format_parsing.proofs.strict.read_few.Goals as goal

plain : (f : FormatData) → HasCommonSymbols f → IsUtf8 f.minus_sign → IsUtf8 f.separator → HasPlainSymbols f
plain f common sign separator = plain-symbols f (unambiguous_from_common f common) sign
    (of_printed IsUtf8 IsUtf8-nil f.grouping f.separator separator)

pub read_short-requires : goal.read_short-requires
read_short-requires g c =
    let f = g.F.Format.answers c.args.format.now in
    let symbols = plain f (c.has_common_symbols.ensures c.if-not-has_common_symbols.false) (search rules) (search rules) in
    (c.sign_of-sign.ensures f c.requires symbols).within

pub returns : goal.returns
returns g c =
    let f = g.F.Format.answers c.args.format.now in
    let symbols = plain f (c.has_common_symbols.ensures c.if-not-has_common_symbols.false) (search rules) (search rules) in
    let sign = c.sign_of-sign.ensures f c.requires symbols in
    (sign, c.in_ok-magnitude.ensures f sign)
