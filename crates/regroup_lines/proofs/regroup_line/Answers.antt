use Rattle.regroup_lines.proofs.Common.{Err, ap, ◌∙◌}
use Rattle.regroup_lines.proofs.ToldLemmas.{text-passed, text-unsent, text-written}
use Rattle.regroup_lines.proofs.regroup_line.Goals as goal

pub returns-in-Ok : goal.returns-in-Ok
returns-in-Ok g c =
    text-written c.args.setup.now.rules.now c.args.setup.now.parser c.args.setup.now.to.now c.args.line.now.number
    c.args.line.now.text.now c.args.setup.now.name.now _ _ _ _ c.regroup_body.result c.regroup_body.ensures tt c.in-Ok.is

pub returns-in-Write : goal.returns-in-Write
returns-in-Write g c =
    text-unsent c.args.setup.now.rules.now c.args.setup.now.parser c.args.setup.now.to.now c.args.line.now.number
    c.args.line.now.text.now c.args.setup.now.name.now _ _ _ _ c.regroup_body.result c.regroup_body.ensures
    (c.in-Err.is ∙ ap Err c.in-Write.is)

pub returns-in_default : goal.returns-in_default
returns-in_default g c =
    text-passed c.args.setup.now.rules.now c.args.setup.now.parser c.args.setup.now.to.now c.args.line.now.number
    c.args.line.now.text.now c.args.setup.now.name.now _ _ _ _ c.regroup_body.result c.regroup_body.ensures
    c.in-Err.fault c.in_default.not-Write c.in-Err.is _ _ (rw c.requires at c.pass_fault.ensures)
