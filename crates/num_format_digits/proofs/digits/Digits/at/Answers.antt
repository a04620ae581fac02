use Rattle.std.proofs.Common.{subst, sym, arith}
use Rattle.num_format_digits.specs.Digits.{IsZero}
use Rattle.num_format_digits.proofs.SetLemmas.{zero-at, zero-there}
use Rattle.num_format_digits.proofs.digits.Digits.at.Goals as goal

pub returns : goal.returns
returns c = zero-at c.sets.result.now c.args.place _ c.sets.ensures.listed (omega (arith, c.sets.ensures.count, c.requires))

pub invariant_of-result : goal.invariant_of-result
invariant_of-result c =
    subst IsZero (sym (zero-at c.sets.result.now c.args.place _ c.sets.ensures.listed (omega (arith, c.sets.ensures.count, c.requires))))
    (zero-there c.args.place c.requires)
