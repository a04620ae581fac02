use Rattle.std.proofs.Common.{◌≡◌, ◌∙◌, ap, sym, false, nat_eq, rules}
use Rattle.std.specs.Prelude.{◌||◌}
use Rattle.std.specs.List.{starts_with}
use Rattle.num_format_typed.specs.Classes.{is_of}
use Rattle.num_format_typed.specs.Typed.{core_of}
use Rattle.num_format_typed.specs.declared.classes.Class.TheVariants.{Plus}
use Rattle.num_format_typed.proofs.SignLemmas.{unsigned-first}
use Rattle.num_format_typed.proofs.rewriter.Rewriter.split_sign.Goals as goal

pub returns-then-has-clause-rest : goal.returns-then-has-clause-rest
returns-then-has-clause-rest g c =
    let other : starts_with nat_eq c.args.text.now (core_of c.args.self.now) ≡ false = search rules in
    unsigned-first c.args.self.now c.args.text.now c.in-Some-split_first.rest.now c.in-Some-split_first.first other
    (ap (λ b. b || is_of Plus c.in-Some-split_first.first) (sym c.has.ensures ∙ c.if-has.true))
    c.in-Some-split_first.ensures.parts.0 c.in-Some-split_first.ensures.parts.1 c.split_first.ensures.whole

pub returns-then-has-2-clause-rest : goal.returns-then-has-2-clause-rest
returns-then-has-2-clause-rest g c =
    let other : starts_with nat_eq c.args.text.now (core_of c.args.self.now) ≡ false = search rules in
    unsigned-first c.args.self.now c.args.text.now c.in-Some-split_first.rest.now c.in-Some-split_first.first other
    (ap (λ b. b || is_of Plus c.in-Some-split_first.first) (sym c.has.ensures ∙ c.if-has.false) ∙ sym c.has-2.ensures ∙ c.if-has-2.true)
    c.in-Some-split_first.ensures.parts.0 c.in-Some-split_first.ensures.parts.1 c.split_first.ensures.whole
