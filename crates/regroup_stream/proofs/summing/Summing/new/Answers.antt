use Rattle.regroup_stream.proofs.SumLemmas.{sums-start}
use Rattle.regroup_stream.proofs.summing.Summing.new.Goals as goal

pub invariant_of-result : goal.invariant_of-result
invariant_of-result g c = record { exact = ∣ rw c.new.ensures.items (sums-start _ _ c.requires.plain c.requires.empty) ∣₁ }
