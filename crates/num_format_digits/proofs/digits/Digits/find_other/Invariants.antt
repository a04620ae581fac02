use Rattle.std.proofs.Common.{◌≡◌, ◌+◌, length}
use Rattle.std.specs.Str.{chars}
use denote.Shadow.{shadow}
use denote.Text.{Utf8}
use Rattle.num_format_digits.specs.Digits.{other_from}
use Rattle.num_format_digits.proofs.digits.Digits.find_other.Given as goal

-- none so far
abbrev pub invariant-loop-c : goal.invariant-loop-c
invariant-loop-c l =
    shadow (Utf8 l.left) × (other_from l.self 0 (chars l.text) ≡ other_from l.self l.at (chars l.left))
    × (l.at + length l.left ≡ length l.text)

abbrev pub decreases-loop-c : goal.decreases-loop-c
decreases-loop-c l = length l.left
