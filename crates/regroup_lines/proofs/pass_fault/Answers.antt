use Rattle.regroup_lines.proofs.Common.{◌∙◌, sym, err_from_is_err_and, fault_of, line_fault_of}
use Rattle.regroup_lines.proofs.ToldLemmas.{fault-unnamed, fault-unpassed}
use Rattle.regroup_lines.proofs.pass_fault.Goals as goal

pub returns-in_err-is_named : goal.returns-in_err-is_named
returns-in_err-is_named g c =
    let p = err_from_is_err_and c.from_residual.result c.from_residual.ensures.1 in
    rw (p.1, p.2)
    (fault-unnamed c.args.setup.now.rules.now c.args.setup.now.name.now c.args.setup.now.parser (line_fault_of c.args.fault)
    c.args.ended.now (sym c.passes.ensures ∙ c.if-not-passes.false)
    (fault_of c.from.result) c.from.ensures _ _ _ _ (line_fault_of c.in_err-is_named.field-0.0) c.in_err-is_named.ensures)

pub returns-in_err-pass_bytes : goal.returns-in_err-pass_bytes
returns-in_err-pass_bytes g c =
    let p = err_from_is_err_and c.from_residual-in_err-pass_bytes.result c.from_residual-in_err-pass_bytes.ensures.1 in
    rw (p.1, p.2)
    (fault-unpassed c.args.setup.now.rules.now c.args.setup.now.name.now c.args.setup.now.parser (line_fault_of c.args.fault)
    c.args.ended.now (sym c.passes.ensures ∙ c.if-not-passes.false)
    (fault_of c.from.result) c.from.ensures _ _ _ _ c.in_ok-is_named.is_named c.in_ok-is_named.ensures _
    (line_fault_of c.in_err-pass_bytes.field-0.0) c.in_err-pass_bytes.ensures)
