use Rattle.std.proofs.Common.{◌≡◌, ◌≤◌, length}
use Rattle.std.specs.Str.{chars}
use denote.Shadow.{shadow}
use denote.Text.{Utf8}
use Rattle.num_format_typed.specs.Classes.{is_of}
use Rattle.num_format_typed.specs.Trimming.{trim_front}
use Rattle.num_format_typed.proofs.trimming.without_front.Given as goal

-- what is left begins where the text does, once it is trimmed
abbrev pub invariant-loop-c : goal.invariant-loop-c
invariant-loop-c l =
    shadow (Utf8 l.left)
    × (trim_front (is_of l.class) (chars l.text) ≡ trim_front (is_of l.class) (chars l.left))
    × (length l.left ≤ length l.text)

abbrev pub decreases-loop-c : goal.decreases-loop-c
decreases-loop-c l = length l.left
