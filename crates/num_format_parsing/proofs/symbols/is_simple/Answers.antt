use Rattle.std.proofs.Common.{◌≡◌, false, true, get_or, length, ◌∙◌, sym, ap, rules, IsUtf8}
use Rattle.std.specs.Char.{is_ascii, is_ascii_digit}
use Rattle.std.specs.List.{list_all, list_any}
use Rattle.num_format_parsing.proofs.NumberLemmas.{no_other-bytes}
use Rattle.num_format_parsing.proofs.SymbolLemmas.{decided-byte, no_numeral}
use Rattle.num_format_parsing.proofs.symbols.is_simple.Goals as goal

pub returns-then-is_ascii : goal.returns-then-is_ascii
returns-then-is_ascii c =
    let t = c.args.symbol.now in
    let utf8 : IsUtf8 t = search rules in
    let same = c.as_bytes-bytes.ensures.value in
    (decided-byte t c.is_ascii_digit.result utf8 (ap length (sym same) ∙ c.if-bytes-eq1.true) (ap (list_all is_ascii) (sym same)
    ∙ sym c.is_ascii.ensures ∙ c.if-is_ascii.true)
    (c.is_ascii_digit.ensures.value ∙ ap (λ xs. is_ascii_digit (get_or xs 0 0)) same)).0

pub returns-then-not-has_digit : goal.returns-then-not-has_digit
returns-then-not-has_digit c = λ yes.
    let t = c.args.symbol.now in
    let utf8 : IsUtf8 t = search rules in
    let none : list_any is_ascii_digit t ≡ false = ap (list_any is_ascii_digit) (sym c.as_bytes-bytes.ensures.value)
    ∙ sym c.has_digit.ensures ∙ c.if-not-has_digit.true in
    let all : list_all is_ascii t ≡ true = ap (list_all is_ascii) (sym c.as_bytes-bytes.ensures.value)
    ∙ sym c.is_ascii-then-not-has_digit.ensures ∙ yes in
    no_numeral t utf8 none (no_other-bytes t all)
