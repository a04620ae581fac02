use Rattle.std.proofs.Common.{◌≡◌, ◌≤◌, ◌-◌, length}
use Rattle.std.specs.Str.{chars}
use denote.Shadow.{shadow}
use denote.Text.{Utf8}
use Rattle.regroup_faults.specs.Messages.{change_after}
use Rattle.regroup_faults.proofs.message.first_change.Given as goal

-- what is left of the texts differs where they do
abbrev pub invariant-loop-met : goal.invariant-loop-met
invariant-loop-met l =
    shadow (Utf8 l.left)
    × shadow (Utf8 l.others)
    × (change_after 0 (chars l.text) (chars l.other) ≡ change_after (length l.text - length l.left) (chars l.left) (chars l.others))
    × (length l.left ≤ length l.text)

abbrev pub decreases-loop-met : goal.decreases-loop-met
decreases-loop-met l = length l.left
