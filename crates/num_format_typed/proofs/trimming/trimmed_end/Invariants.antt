use Rattle.std.proofs.Common.{◌≡◌, ◌≤◌, length}
use Rattle.std.specs.Str.{chars}
use denote.Shadow.{shadow}
use denote.Text.{Utf8}
use Rattle.num_format_typed.specs.Classes.{is_of}
use Rattle.num_format_typed.specs.Trimming.{trim_end}
use Rattle.num_format_typed.proofs.trimming.trimmed_end.Given as goal

-- what is left ends where the text does, once it is trimmed
abbrev pub invariant-loop-rest : goal.invariant-loop-rest
invariant-loop-rest l =
    shadow (Utf8 l.left)
    × (trim_end (is_of l.class) (chars l.text) ≡ trim_end (is_of l.class) (chars l.left))
    × (length l.left ≤ length l.text)

abbrev pub decreases-loop-rest : goal.decreases-loop-rest
decreases-loop-rest l = length l.left
