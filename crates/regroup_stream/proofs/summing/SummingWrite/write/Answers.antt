use Rattle.std.proofs.Math.Logic.{∥∥₁_map}
use Rattle.regroup_stream.proofs.SumLemmas.{sums-added, sums-later}
use Rattle.regroup_stream.proofs.summing.SummingWrite.write.Goals as goal

pub invariant_of-self : goal.invariant_of-self
invariant_of-self g c = record { exact = rw c.in_err-receive.ensures.err c.args.self.now.exact }

pub invariant_of-self-in-None : goal.invariant_of-self-in-None
invariant_of-self-in-None g c = record {
  exact = rw c.in_ok-receive.ensures.ok
      (∥∥₁_map c.args.self.now.exact (λ k. sums-added _ _ _ _ _ _ (rw c.in-None.is at k) c.add_line-self.ensures));
}

pub invariant_of-self-in-Some : goal.invariant_of-self-in-Some
invariant_of-self-in-Some g c = record {
  exact = rw (c.in_ok-receive.ensures.ok, c.in-Some.is)
      (∥∥₁_map c.args.self.now.exact (λ k. sums-later _ _ _ _ _ (rw c.in-Some.is at k)));
}
