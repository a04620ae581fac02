use Rattle.std.proofs.Common.{◌≡◌, ◌≤◌, ◌-◌, ℕ, List, length}
use Rattle.num_format_affixes.specs.Sides.{IsWithoutBlanks, without}
use Rattle.num_format_affixes.proofs.side.Side.without_blanks.Given as goal

-- what is left of the text is what is left of it so far without the other blanks
abbrev pub invariant-loop-len : goal.invariant-loop-len
invariant-loop-len l =
    ((rest : List ℕ) → IsWithoutBlanks l.self rest l.left → IsWithoutBlanks l.self rest l.text)
    × (l.left ≡ without l.self (length l.text - length l.left) l.text) × (length l.left ≤ length l.text)

abbrev pub decreases-loop-len : goal.decreases-loop-len
decreases-loop-len l = length l.left
