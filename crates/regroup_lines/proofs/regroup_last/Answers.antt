use Rattle.regroup_lines.proofs.Common.{◌∙◌, sym}
use Rattle.regroup_lines.proofs.ToldLemmas.{closed-record}
use Rattle.regroup_lines.proofs.regroup_last.Goals as goal

pub returns : goal.returns
returns g c =
    rw (closed-record c.args.setup.now.rules.now c.args.setup.now.parser c.args.setup.now.to.now c.args.line.now.number
    c.args.line.now.text.now (sym c.is_open.ensures ∙ c.if-is_open.false)) c.regroup_line.ensures
