use Rattle.num_format_digits.proofs.SetLemmas.{zero-scalar}
use Rattle.num_format_digits.proofs.digits.Digits.zero.Goals as goal

pub from_u32_unchecked-requires : goal.from_u32_unchecked-requires
from_u32_unchecked-requires c = zero-scalar c.self.inside.zero c.self.invariant
