use Rattle.std.proofs.Common.{Err, ap, sym, ◌∙◌}
use Rattle.regroup_faults.proofs.TypedLemmas.{why_result, why_untyped-is}
use Rattle.regroup_faults.proofs.message.why_untyped.Goals as goal

pub returns-in-Ok : goal.returns-in-Ok
returns-in-Ok g c =
    let is = why_untyped-is (g.F.Format.answers c.args.from.now) c.format_data.ensures.utf8 c.args.text.now c.utf8.text _
    c.parse_typed_decimal.ensures in
    sym (is ∙ ap why_result c.in-Ok.is)

pub returns-in-Err-TooLong : goal.returns-in-Err-TooLong
returns-in-Err-TooLong g c =
    let is = why_untyped-is (g.F.Format.answers c.args.from.now) c.format_data.ensures.utf8 c.args.text.now c.utf8.text _
    c.parse_typed_decimal.ensures in
    sym (is ∙ ap why_result c.in-Err-TooLong.is ∙ ap (λ e. why_result (Err e)) c.in-Err-TooLong.field-0-is)

pub returns-in-Err-Number : goal.returns-in-Err-Number
returns-in-Err-Number g c =
    let is = why_untyped-is (g.F.Format.answers c.args.from.now) c.format_data.ensures.utf8 c.args.text.now c.utf8.text _
    c.parse_typed_decimal.ensures in
    c.why_in.ensures ∙ sym (is ∙ ap why_result c.in-Err-Number.is ∙ ap (λ e. why_result (Err e)) c.in-Err-Number.field-0-is)
