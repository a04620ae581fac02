use Rattle.regroup_lines.proofs.Common.{ap, passed_as, subst, sym, ◌∙◌}
use Rattle.regroup_lines.proofs.CsvLemmas.{unneeded}
use Rattle.regroup_lines.specs.Adding.{Adds}
use Rattle.regroup_lines.proofs.fields.Line.append_passed.Goals as goal

pub returns-then-not-needs_quotes : goal.returns-then-not-needs_quotes
returns-then-not-needs_quotes g c =
    let fields = c.args.self.now.fields.now in
    let line_end = c.args.self.now.setup.now.rules.now.line_end in
    subst (Adds c.args.text.now c.append-then-not-needs_quotes.new.self) (sym (ap
    (λ o. passed_as o fields.quotes line_end c.args.field.now) c.in-Some.is
    ∙ unneeded c.in-Some.output line_end fields.quotes c.args.field.now (sym c.is_bare.ensures ∙ c.if-is_bare.false)
    (sym c.needs_quotes.ensures ∙ c.if-not-needs_quotes.true)))
    c.append-then-not-needs_quotes.ensures
