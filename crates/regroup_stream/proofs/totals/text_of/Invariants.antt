use Rattle.std.proofs.Common.{take, ◌≡◌}
use Rattle.regroup_stream.specs.SumAll.{sum_texts}
use Rattle.regroup_stream.proofs.totals.text_of.Given as goal

-- the sums so far are appended
abbrev pub invariant-loop-sum : goal.invariant-loop-sum
invariant-loop-sum l = l.text.items ≡ sum_texts l.format (take l.sum-index l.sums)
