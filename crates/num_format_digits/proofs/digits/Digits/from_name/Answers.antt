use Rattle.std.proofs.Common.{◌∙◌, ap, sym}
use Rattle.num_format_digits.specs.Digits.{zero_among}
use Rattle.num_format_digits.specs.Sets.{sets}
use Rattle.num_format_digits.proofs.SetLemmas.{among-contains}
use Rattle.num_format_digits.proofs.digits.Digits.from_name.Goals as goal

pub invariant_of-result : goal.invariant_of-result
invariant_of-result c =
    let name = c.args.name.now in
    among-contains sets name c.in_ok-zero.zero (ap (λ rows. zero_among rows name) (sym c.sets.ensures.listed) ∙ sym c.zero_of.ensures
    ∙ c.in_ok-zero.was)
