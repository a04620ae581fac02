use Rattle.std.proofs.Common.{◌-◌, ◌≤◌, drop, length}
use Rattle.num_format_parsing.proofs.GroupsLemmas.{IsLeft, IsReadTo}
use Rattle.num_format_parsing.proofs.groups.read_groups.Given as goal

abbrev pub invariant-loop-end : goal.invariant-loop-end
invariant-loop-end g l = record {
  within : l.end ≤ length l.text;
  left : IsLeft l.fn.last l.fn.size l.separator l.text (drop l.end l.text);
  read : IsReadTo g.A.Accumulator.bound l.text (drop l.end l.text) l.part.digit_count (g.A.Accumulator.number l.part.magnitude);
}

abbrev pub decreases-loop-end : goal.decreases-loop-end
decreases-loop-end g l = length l.text - l.end
