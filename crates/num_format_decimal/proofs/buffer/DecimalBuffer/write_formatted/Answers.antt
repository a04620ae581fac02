use Rattle.std.proofs.Common.{arith, rules}
use Rattle.std.proofs.lemmas.List.{drop_all}
use Rattle.num_format_decimal.proofs.buffer.DecimalBuffer.write_formatted.Goals as goal

pub invariant_of-self : goal.invariant_of-self
invariant_of-self g c = let inside = c.self.inside in rw (drop_all 199 inside.inner (omega (arith, c.self.invariant.1))) (
  omega arith,
  c.self.invariant.1,
  ∣ search rules ∣₁,
)

pub put_unsigned-requires : goal.put_unsigned-requires
put_unsigned-requires g c = drop_all 199 c.self.inside.inner (omega (arith, c.self.invariant.1))
