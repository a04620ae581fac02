use Rattle.regroup_lines.proofs.Common.{drop, length, quoted_len, ◌+◌, ◌-◌, ◌≡◌, ◌≤◌}
use Rattle.regroup_lines.proofs.fields.split_quoted.Given as goal

-- no quote so far closes the field
abbrev pub invariant-bytes : goal.invariant-bytes
invariant-bytes l = (l.at ≤ length l.text) × (quoted_len l.text ≡ l.at + quoted_len (drop l.at l.text))

abbrev pub decreases-bytes : goal.decreases-bytes
decreases-bytes l = length l.text - l.at
