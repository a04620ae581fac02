use Rattle.std.proofs.Common.{sym, ◌∙◌}
use Rattle.regroup_faults.proofs.DecimalLemmas.{why-is, why-parsed}
use Rattle.regroup_faults.proofs.message.why_refused.Goals as goal

pub returns-in-Ok : goal.returns-in-Ok
returns-in-Ok g c =
    let from = g.F.Format.answers c.args.from.now in
    let d = c.in-Ok.field-0 in
    sym (why-parsed from c.format_data.ensures.utf8 c.args.text.now d ((c.from_strict_str.ensures.decimal d).0 c.in-Ok.is))

pub returns-in-Err : goal.returns-in-Err
returns-in-Err g c =
    let from = g.F.Format.answers c.args.from.now in
    let e = c.in-Err.error in
    c.why_in.ensures ∙ sym (why-is from c.format_data.ensures.utf8 c.args.text.now e ((c.from_strict_str.ensures.refused e).0 c.in-Err.is))
