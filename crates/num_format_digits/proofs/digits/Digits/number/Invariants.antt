use Rattle.std.proofs.Common.{◌≢◌, ◌<◌, ℕ, get_or}
use Rattle.num_format_digits.specs.Digits.{zeros}
use Rattle.num_format_digits.specs.Sets.{sets}
use Rattle.num_format_digits.proofs.digits.Digits.number.Given as goal

-- none so far is the set
abbrev pub invariant-loop-number : goal.invariant-loop-number
invariant-loop-number l = (j : ℕ) → j < l.number → get_or (zeros sets) j 0 ≢ l.fn.self
