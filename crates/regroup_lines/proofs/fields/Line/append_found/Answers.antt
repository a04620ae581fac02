use Rattle.regroup_lines.proofs.Common.{number_text, subst, sym, ◌∙◌, ◌≡◌}
use Rattle.regroup_faults.proofs.NotationLemmas.{latin_text}
use Rattle.regroup_lines.specs.Adding.{Adds}
use Rattle.regroup_lines.specs.Csv.{placed}
use Rattle.regroup_lines.proofs.fields.Line.append_found.Goals as goal

pub returns-then-is_latin : goal.returns-then-is_latin
returns-then-is_latin g c =
    let found = c.args.found.now in
    let is : c.as_str.result.now ≡ number_text c.args.self.now.setup.now.to.now found.value =
    rw (← c.to.view_is) (c.as_str.ensures.same ∙ c.write_formatted.ensures.text
    ∙ sym (latin_text c.to.inside.digits _ (sym c.is_latin.ensures ∙ c.if-is_latin.true))) in
    subst (λ t. Adds c.args.text.now c.append_text.new.text (placed c.args.self.now.fields.now c.args.self.now.setup.now.rules.now.line_end
    found.is_quoted c.args.field.now (found.start, found.end) t)) is c.append_text.ensures
