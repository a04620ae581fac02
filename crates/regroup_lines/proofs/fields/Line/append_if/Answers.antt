use Rattle.regroup_lines.proofs.AddLemmas.{AddsIf-after}
use Rattle.regroup_lines.proofs.fields.Line.append_if.Goals as goal

pub returns : goal.returns
returns g c =
    rw c.if-not-is_asked.false (AddsIf-after c.args.text.now c.append_delimiter.new.text c.append_field.new.text _ _ _
    c.append_delimiter.ensures c.append_field.ensures)
