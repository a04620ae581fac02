use Rattle.std.proofs.Common.{◌≡◌, ap, subst, to_z, of_z, arith}
use Rattle.std.proofs.lemmas.Int.{to_z-of_z}
use Rattle.std.specs.Int.{w128}
use Rattle.num_format_decimal.specs.FixedPoint.{fixed_point}
use Rattle.num_format_decimal.specs.Parsing.{ParsesAtScale}
use Rattle.uses_money.proofs.money.Money.parse.Goals as goal

pub returns-in-Ok-clause-amount : goal.returns-in-Ok-clause-amount
returns-in-Ok-clause-amount g c =
    let f = g.F.Format.answers c.args.format.now in
    let text = c.args.text.now in
    let d = c.in-Ok.amount in
    let decimals = c.decimals.result in
    let parsed = (c.parse_at_scale.ensures.decimal d).0 c.in-Ok.is in
    let scale : d.scale ≡ decimals = ap (λ e. e.scale) parsed.same in
    let units : d.units ≡ to_z w128 (of_z w128 c.units.result) = grind (arith, to_z-of_z, c.units.ensures) in
    subst (λ s. ParsesAtScale f text s (fixed_point (to_z w128 (of_z w128 c.units.result)) s)) c.decimals.ensures.decimals
    (subst (λ u. ParsesAtScale f text decimals (fixed_point u decimals)) units
    (subst (λ s. ParsesAtScale f text decimals (fixed_point d.units s)) scale parsed))
