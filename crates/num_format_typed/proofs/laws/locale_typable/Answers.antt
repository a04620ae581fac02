use Rattle.num_format_typed.proofs.LocaleLemmas.{locale_typable}
use Rattle.num_format_typed.proofs.laws.locale_typable.Goals as goal

pub returns : goal.returns
returns c = locale_typable c.args.locale c.name.ensures.within
