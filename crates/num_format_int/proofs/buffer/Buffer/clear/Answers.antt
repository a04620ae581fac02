use Rattle.std.proofs.Common.{arith, rules, refl}
use Rattle.num_format_int.proofs.BufferLemmas.{all_cleared}
use Rattle.num_format_int.proofs.buffer.Buffer.clear.Goals as goal

pub invariant_of-self : goal.invariant_of-self
invariant_of-self c =
    rw (all_cleared _ _ _ c.self.told c.if-self-ge-SHORT_START.true c.self.invariant.2 c.copy_from_slice.ensures.after)
    (omega arith, refl, refl, ∣ search rules ∣₁)
