use Rattle.std.proofs.Common.{◌∙◌, sym, arith}
use Rattle.num_format_parsing.proofs.DigitLemmas.{text_digits-bytes, text_digits-none}
use Rattle.num_format_decimal.proofs.CauseLemmas.{expected_of, some_digit}
use Rattle.num_format_decimal.proofs.parser.DecimalParser.cause.Goals as goal

pub returns-then-not-has_digit : goal.returns-then-not-has_digit
returns-then-not-has_digit g c =
    let t = c.args.text.now in
    let at = c.decimals_end-at in
    let utf8 = c.is_utf8.ensures.0 c.if-not-is_utf8.false in
    let expected = expected_of c.args.self.now t at.result.0 utf8 c.requires.not_canonical at.ensures.rest c.if-at-text.false in
    let none = text_digits-bytes t utf8 ∙ text_digits-none t (sym c.has_digit.ensures ∙ c.if-not-has_digit.true) in
    (c.mark.ensures.marks, record { expected = expected; fault = none })

pub returns-then-decimals : goal.returns-then-decimals
returns-then-decimals g c =
    let t = c.args.text.now in
    let at = c.decimals_end-at in
    let utf8 = c.is_utf8.ensures.0 c.if-not-is_utf8.false in
    let expected = expected_of c.args.self.now t at.result.0 utf8 c.requires.not_canonical at.ensures.rest c.if-at-text.false in
    let some = some_digit t utf8 (sym c.has_digit.ensures ∙ c.if-not-has_digit.false) in
    (c.mark.ensures.marks, record { expected = expected; fault = (some, omega (arith, c.if-decimals.true, at.ensures.decimals)) })

pub returns : goal.returns
returns g c =
    let t = c.args.text.now in
    let at = c.decimals_end-at in
    let utf8 = c.is_utf8.ensures.0 c.if-not-is_utf8.false in
    let expected = expected_of c.args.self.now t at.result.0 utf8 c.requires.not_canonical at.ensures.rest c.if-at-text.false in
    let some = some_digit t utf8 (sym c.has_digit.ensures ∙ c.if-not-has_digit.false) in
    (c.mark.ensures.marks, record { expected = expected; fault = (some, omega (arith, c.if-decimals.false, at.ensures.decimals)) })
