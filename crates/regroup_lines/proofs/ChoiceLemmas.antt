-- What is true of both branches of a test.
use Rattle.regroup_lines.proofs.Common.{Bool, true, false, if◌then◌else◌}

pub either : {T : Type 0} (P : T → Type 0) (is : Bool) (a b : T) → P a → P b → P (if is then a else b)
either P true a b first second = first
either P false a b first second = second
