use Rattle.std.proofs.Common.{◌≡◌, drop}
use Rattle.std.specs.Prelude.{map}
use Rattle.num_format_digits.specs.Digits.{zero_among}
use Rattle.num_format_digits.proofs.sets.zero_of.Given as goal

-- none so far has the name
abbrev pub invariant-loop-place : goal.invariant-loop-place
invariant-loop-place l = zero_among (map (λ r. (r.0.now, r.1)) l.rows) l.name ≡ zero_among
    (drop l.place (map (λ r. (r.0.now, r.1)) l.rows)) l.name
