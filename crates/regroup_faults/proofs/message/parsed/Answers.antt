use Rattle.std.proofs.Common.{sym}
use Rattle.regroup_faults.proofs.DecimalLemmas.{decimal_read-is}
use Rattle.regroup_faults.proofs.TypedLemmas.{typed_read-is}
use Rattle.regroup_faults.proofs.message.parsed.Goals as goal

pub returns-in-Strict : goal.returns-in-Strict
returns-in-Strict g c =
    let from = g.F.Format.answers c.args.from.now in
    rw (c.in-Strict.is, c.ok.ensures.value)
    (sym (decimal_read-is from c.format_data.ensures.utf8 c.args.text.now _ c.from_strict_str.ensures))

pub returns-in-Typed : goal.returns-in-Typed
returns-in-Typed g c =
    let from = g.F.Format.answers c.args.from.now in
    rw (c.in-Typed.is, c.ok-in-Typed.ensures.value)
    (sym (typed_read-is from c.format_data.ensures.utf8 c.args.text.now c.utf8.text _ c.parse_typed_decimal.ensures))
