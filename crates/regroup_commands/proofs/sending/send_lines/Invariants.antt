use Rattle.std.proofs.Common.{drop}
use Rattle.num_format.specs.Writing.{HasReceivedUpTo}
use Rattle.regroup_commands.specs.Request.{texts}
use Rattle.regroup_commands.specs.Output.{lines}
use Rattle.regroup_commands.proofs.sending.send_lines.Given as goal

-- the writer received all lines before those that are left
abbrev pub invariant-loop-text : goal.invariant-loop-text
invariant-loop-text g l = HasReceivedUpTo (g.W.Write.contents l.initial.writer) (g.W.Write.contents l.writer) (lines (texts l.items))
    (lines (texts (drop l.text-index l.items)))
