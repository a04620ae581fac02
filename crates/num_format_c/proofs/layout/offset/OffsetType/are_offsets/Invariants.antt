use Rattle.std.proofs.Common.{ℕ, ◌+◌, ◌<◌, ◌≤◌}
use Rattle.num_format_c.specs.Layout.{offset_at}
use Rattle.num_format_c.proofs.layout.offset.OffsetType.are_offsets.Given as goal

abbrev pub invariant-loop-k : goal.invariant-loop-k
invariant-loop-k l = (j : ℕ) → j < l.k →
    (offset_at l.self l.offsets j ≤ offset_at l.self l.offsets (j + 1)) × (offset_at l.self l.offsets (j + 1) ≤ l.limit)
