use Rattle.std.proofs.Common.{ap, sym, ◌∙◌}
use Rattle.std.specs.Result.{result_ok}
use Rattle.regroup_faults.proofs.TypedLemmas.{typed_read-is}
use Rattle.regroup_faults.specs.Messages.{first_change, why_changed, why_meant}
use Rattle.regroup_faults.proofs.message.why_meant.Goals as goal

pub returns-in_default : goal.returns-in_default
returns-in_default g c =
    let from = g.F.Format.answers c.args.from.now in
    let text = c.args.text.now in
    let is = typed_read-is from c.format_data.ensures.utf8 text c.utf8.text _ c.parse_typed_decimal.ensures in
    sym (ap (why_meant from text c.args.before) (is ∙ ap result_ok c.in_default.is))

pub returns : goal.returns
returns g c =
    let from = g.F.Format.answers c.args.from.now in
    let text = c.args.text.now in
    let is = typed_read-is from c.format_data.ensures.utf8 text c.utf8.text _ c.parse_typed_decimal.ensures in
    let change = c.first_change.ensures ∙ ap (first_change text) (c.as_str.ensures.same ∙ c.write_formatted.ensures.text) in
    c.why_changed.ensures ∙ ap (why_changed c.args.before) change
    ∙ sym (ap (why_meant from text c.args.before) (is ∙ ap result_ok c.in-Ok.is))
