use Rattle.std.proofs.Common.{◌≡◌, length}
use Rattle.std.specs.Str.{chars}
use denote.Shadow.{shadow}
use denote.Text.{Utf8}
use Rattle.num_format_digits.specs.Digits.{first_set}
use Rattle.num_format_digits.proofs.digits.Digits.of_text.Given as goal

-- none so far is a digit
abbrev pub invariant-loop-c : goal.invariant-loop-c
invariant-loop-c l = shadow (Utf8 l.left) × (first_set (chars l.text) ≡ first_set (chars l.left))

abbrev pub decreases-loop-c : goal.decreases-loop-c
decreases-loop-c l = length l.left
