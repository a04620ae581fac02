use Rattle.std.proofs.Common.{◌≡◌, ◌-◌, ◌≤◌, length, drop}
use Rattle.num_format_parsing.specs.Strict.{unread}
use Rattle.num_format_parsing.proofs.causes.expected_end.Given as goal

abbrev pub invariant-loop-place : goal.invariant-loop-place
invariant-loop-place l = record {
  within : l.place ≤ length l.text;
  rest : unread l.separator 0 (drop l.start l.text) ≡ unread l.separator 0 (drop l.place l.text);
}

abbrev pub decreases-loop-place : goal.decreases-loop-place
decreases-loop-place l = length l.text - l.place
