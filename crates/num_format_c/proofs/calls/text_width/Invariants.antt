use Rattle.std.proofs.Common.{◌≡◌, ◌+◌, ◌≤◌, length}
use Rattle.num_format_c.specs.Calls.{columns_of}
use Rattle.num_format_c.proofs.calls.text_width.Given as goal

-- the columns so far, and those of what is left
abbrev pub invariant-loop-first : goal.invariant-loop-first
invariant-loop-first l = (columns_of l.text ≡ l.columns + columns_of l.left) × (l.columns + length l.left ≤ length l.text)

abbrev pub decreases-loop-first : goal.decreases-loop-first
decreases-loop-first l = length l.left
