use Rattle.std.proofs.Common.{◌≡◌, false, true, not, ◌∙◌, sym, ap, rules, IsUtf8}
use Rattle.std.specs.Char.{is_ascii_digit}
use Rattle.std.specs.List.{list_any}
use Rattle.std.proofs.lemmas.Bool.{both_ways}
use Rattle.num_format_parsing.proofs.SymbolLemmas.{decided, some_digit}
use Rattle.num_format_parsing.proofs.symbols.is_plain.Goals as goal

pub returns-then-not-has_digit : goal.returns-then-not-has_digit
returns-then-not-has_digit c =
    let t = c.args.symbol.now in
    let utf8 : IsUtf8 t = search rules in
    let none : list_any is_ascii_digit t ≡ false = ap (list_any is_ascii_digit) (sym c.as_bytes.ensures.value) ∙ sym c.has_digit.ensures
    ∙ c.if-not-has_digit.true in
    decided t c.has_other_numeral.result utf8 none c.has_other_numeral.ensures

pub returns-else-not-has_digit : goal.returns-else-not-has_digit
returns-else-not-has_digit c =
    let t = c.args.symbol.now in
    let utf8 : IsUtf8 t = search rules in
    let some : list_any is_ascii_digit t ≡ true = ap (list_any is_ascii_digit) (sym c.as_bytes.ensures.value) ∙ sym c.has_digit.ensures
    ∙ c.if-not-has_digit.false in
    (λ wrong. absurd (both_ways _ (ap not c.if-not-has_digit.false) wrong), λ plain. absurd (some_digit t utf8 some plain))
