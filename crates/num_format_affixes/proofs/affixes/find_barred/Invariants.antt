use Rattle.std.proofs.Common.{◌≡◌, ◌+◌, false, length}
use Rattle.std.specs.Str.{chars}
use denote.Shadow.{shadow}
use denote.Text.{Utf8}
use Rattle.num_format_affixes.specs.Affixes.{barred_from}
use Rattle.num_format_affixes.proofs.affixes.find_barred.Given as goal

-- none so far
abbrev pub invariant-loop-c : goal.invariant-loop-c
invariant-loop-c l =
    shadow (Utf8 l.left) × (barred_from false 0 (chars l.text) ≡ barred_from l.after_letter l.at (chars l.left))
    × (l.at + length l.left ≡ length l.text)

abbrev pub decreases-loop-c : goal.decreases-loop-c
decreases-loop-c l = length l.left
