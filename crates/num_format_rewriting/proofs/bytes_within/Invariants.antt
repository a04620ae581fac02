use Rattle.std.proofs.Common.{◌≡◌, ◌+◌, length}
use Rattle.std.specs.Str.{chars}
use denote.Shadow.{shadow}
use denote.Text.{Utf8}
use Rattle.num_format_rewriting.specs.Rewriting.{bytes_within}
use Rattle.num_format_rewriting.proofs.bytes_within.Given as goal

-- the bytes so far, and those of what is left in the space that is left
abbrev pub invariant-loop-c : goal.invariant-loop-c
invariant-loop-c g l =
    shadow (Utf8 l.left)
    × (bytes_within (g.I.Image.image l.map) l.room (chars l.text) ≡ l.bytes + bytes_within (g.I.Image.image l.map) l.space (chars l.left))
    × (l.bytes + length l.left ≡ length l.text)

abbrev pub decreases-loop-c : goal.decreases-loop-c
decreases-loop-c g l = length l.left
