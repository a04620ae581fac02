use Rattle.std.proofs.Common.{◌≡◌, ◌+◌, ◌≤◌, ◌++◌, length, take}
use denote.Shadow.{shadow}
use denote.Text.{Utf8}
use Rattle.num_format_rewriting.specs.Rewriting.{images}
use Rattle.num_format_rewriting.proofs.put_digits.Given as goal

-- the bytes so far, and those of what is left, are all
abbrev pub invariant-loop-digit : goal.invariant-loop-digit
invariant-loop-digit g l =
    shadow (Utf8 l.left)
    × (take l.end l.array ++ images (g.I.Image.image l.map) l.left ≡ take l.len l.fn.array ++ images (g.I.Image.image l.map) l.text)
    × (l.end + length l.left ≤ length l.fn.array)
    × (length l.array ≡ length l.fn.array)
    × (length l.left ≤ length l.text)

abbrev pub decreases-loop-digit : goal.decreases-loop-digit
decreases-loop-digit g l = length l.left
