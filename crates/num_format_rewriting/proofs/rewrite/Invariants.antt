use Rattle.std.proofs.Common.{◌≡◌, ◌≤◌, ◌++◌, length, take}
use denote.Shadow.{shadow}
use denote.Text.{Utf8}
use Rattle.num_format_rewriting.specs.Rewriting.{images}
use Rattle.num_format_rewriting.proofs.rewrite.Given as goal

-- the bytes so far, and those of what is left, are all
abbrev pub invariant-loop-c : goal.invariant-loop-c
invariant-loop-c g l =
    shadow (Utf8 l.left)
    × (l.prefix ++ images (g.I.Image.image l.map) l.text ≡ take l.len l.array ++ images (g.I.Image.image l.map) l.left)
    × (l.len ≤ length l.array)
    × (length l.array ≡ length l.fn.array)
    × (l.image ≡ g.I.Image.image l.map l.last)

abbrev pub decreases-loop-c : goal.decreases-loop-c
decreases-loop-c g l = length l.left
