use Rattle.std.proofs.Common.{◌≡◌, ◌∙◌, drop, ap, length, length-drop, sym, arith}
use Rattle.std.proofs.lemmas.Bool.{ltb-true}
use Rattle.num_format_parsing.specs.Strict.{unexpected}
use Rattle.num_format_decimal.proofs.ParserLemmas.{expected-whole}
use Rattle.num_format_decimal.proofs.parser.DecimalParser.has_unexpected.Goals as goal

pub returns : goal.returns
returns g c = rw (← c.self.view_is) (λ inside d whole is_canonical.
    let f = c.self.inside.numbers in
    let t = c.args.text.now in
    let rest : unexpected f t ≡ drop c.expected_end.result t =
    cc (c.sign-sign.ensures.long, c.as_bytes.ensures.value, c.separator.ensures.same, c.expected_end.ensures.rest) in
    let none = ap length (sym rest ∙ expected-whole f t d c.sign-sign.ensures.symbols whole is_canonical) in
    omega (arith, ltb-true _ _ inside, none, length-drop c.expected_end.result t))
