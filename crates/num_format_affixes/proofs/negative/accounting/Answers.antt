use Rattle.std.proofs.Common.{◌∙◌, refl, sym}
use Rattle.num_format_affixes.specs.Accounting.AccountingResult.{negative, signed_twice}
use Rattle.num_format_affixes.proofs.negative.accounting.Goals as goal

pub returns-in-Some-second_sign : goal.returns-in-Some-second_sign
returns-in-Some-second_sign c =
    signed_twice c.in-Some.parts c.in-Some-second_sign.place c.in-Some.ensures (sym c.second_sign.ensures.value ∙ c.in-Some-second_sign.is)
    refl

pub returns-in-None : goal.returns-in-None
returns-in-None c = negative c.in-Some.parts c.in-Some.ensures (sym c.second_sign.ensures.value ∙ c.in-None.is) refl
