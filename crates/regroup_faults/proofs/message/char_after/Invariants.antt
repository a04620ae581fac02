use Rattle.std.proofs.Common.{◌≡◌, length}
use Rattle.std.specs.Str.{chars}
use denote.Shadow.{shadow}
use denote.Text.{Utf8}
use Rattle.regroup_faults.specs.Messages.{char_after}
use Rattle.regroup_faults.proofs.message.char_after.Given as goal

-- the character is in what is left of the text
abbrev pub invariant-loop-c : goal.invariant-loop-c
invariant-loop-c l = shadow (Utf8 l.left) × (char_after l.before (chars l.text) ≡ char_after l.space (chars l.left))

abbrev pub decreases-loop-c : goal.decreases-loop-c
decreases-loop-c l = length l.left
