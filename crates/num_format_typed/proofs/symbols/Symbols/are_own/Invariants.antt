use Rattle.std.proofs.Common.{◌≡◌, length}
use denote.Shadow.{shadow}
use denote.Text.{Utf8}
use Rattle.num_format_typed.specs.Typed.{is_own}
use Rattle.num_format_typed.proofs.symbols.Symbols.are_own.Given as goal

-- the text is put for itself where what is left of it is
abbrev pub invariant-loop-c : goal.invariant-loop-c
invariant-loop-c l =
    shadow (Utf8 l.left) × (is_own l.self.separator.now l.self.mark.now l.text ≡ is_own l.self.separator.now l.self.mark.now l.left)

abbrev pub decreases-loop-c : goal.decreases-loop-c
decreases-loop-c l = length l.left
