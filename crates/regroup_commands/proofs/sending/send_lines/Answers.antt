use Rattle.std.proofs.Common.{rules}
use Rattle.num_format.proofs.WritingLemmas.{OnErr-always}
use Rattle.regroup_commands.proofs.SendingLemmas.{StopsWithin_line}
use Rattle.regroup_commands.proofs.sending.send_lines.Goals as goal

pub returns-in_err-send_line : goal.returns-in_err-send_line
returns-in_err-send_line g c = record {
  whole = search rules;
  prefix = OnErr-always _ _ (StopsWithin_line _ _ _ _ _ _ _ c.loop-text-test.true c.loop-text.invariant c.in_err-send_line.ensures.prefix);
}
