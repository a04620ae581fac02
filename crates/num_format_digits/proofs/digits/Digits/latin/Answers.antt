use Rattle.num_format_digits.proofs.SetLemmas.{latin}
use Rattle.num_format_digits.proofs.digits.Digits.latin.Goals as goal

pub invariant_of-result : goal.invariant_of-result
invariant_of-result c = latin
