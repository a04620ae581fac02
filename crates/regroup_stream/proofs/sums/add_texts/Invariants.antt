use Rattle.std.proofs.Common.{◌≡◌, ◌+◌, ◌≤◌, drop, length, take}
use Rattle.regroup_stream.specs.Columns.{AreAdded, between_tabs}
use Rattle.regroup_stream.proofs.sums.add_texts.Given as goal

-- the numbers of the texts so far are added, and the others are left
abbrev pub invariant-loop-text : goal.invariant-loop-text
invariant-loop-text l = record {
  added : AreAdded l.parser (take l.column (between_tabs l.line)) l.initial.sums.items l.sums.items;
  left : drop l.column (between_tabs l.line) ≡ between_tabs l.left;
  within : l.column + length l.left ≤ length l.line;
}

abbrev pub decreases-loop-text : goal.decreases-loop-text
decreases-loop-text l = length l.left
