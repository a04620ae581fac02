use Rattle.std.proofs.Common.{◌≡◌, ◌∙◌, ◌∷◌, [], drop}
use Rattle.std.proofs.lemmas.List.{take_rest}
use Rattle.num_format_decimal.proofs.ParserLemmas.{no_amount, signed_amount}
use Rattle.num_format_decimal.proofs.parser.DecimalParser.amount.Goals as goal

pub returns-in-Number : goal.returns-in-Number
returns-in-Number g c =
    let sign = c.sign-sign in
    rw (← c.self.view_is) (signed_amount c.self.inside.numbers c.args.text.now sign.result.is_negative sign.result.len c.in-Number.magnitude
    sign.ensures (rw c.in-Number.is at c.read.ensures))

pub returns-in-NotCanonical : goal.returns-in-NotCanonical
returns-in-NotCanonical g c =
    let t = c.args.text.now in
    let sign = c.sign-sign in
    let nonzero = λ (same : drop sign.result.len t ≡ 48 ∷ []). c.in_default.ensures (take_rest t sign.result.len ∙ same) in
    rw (← c.self.view_is) (no_amount c.self.inside.numbers t sign.result.is_negative sign.result.len sign.ensures nonzero
    (rw c.in-NotCanonical.is at c.read.ensures))
