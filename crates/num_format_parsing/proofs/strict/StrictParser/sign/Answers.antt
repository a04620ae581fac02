use Rattle.std.proofs.Common.{◌≡◌, subst, rules, IsUtf8}
use Rattle.num_format_parsing.specs.Strict.{IsUnambiguous}
use Rattle.num_format_parsing.proofs.SymbolLemmas.{plain-symbols}
use Rattle.num_format_parsing.proofs.strict.StrictParser.sign.Goals as goal

pub returns : goal.returns
returns g c =
    let f = c.args.self.now in
    let same = subst (λ d. c.self.inside.minus_sign.now ≡ d.minus_sign) c.self.view_is c.self.invariant.0 in
    let plain = subst IsUnambiguous c.self.view_is c.self.invariant.3 in
    let minus : IsUtf8 c.self.inside.minus_sign.now = search rules in
    c.sign_of.ensures f same (plain-symbols f plain (subst IsUtf8 same minus) (subst IsUtf8 c.separator.ensures.same c.separator.utf8))
