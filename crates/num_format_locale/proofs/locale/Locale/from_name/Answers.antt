use Rattle.std.proofs.Common.{subst}
use Rattle.num_format_locale.specs.Names.{Spells, name_of}
use Rattle.num_format_locale.proofs.SearchLemmas.{looked_up}
use Rattle.num_format_locale.proofs.locale.Locale.from_name.Goals as goal

pub returns-in-Some : goal.returns-in-Some
returns-in-Some c =
    let spelled = rw c.in-Some.is at c.find.ensures.spelled in
    let within = rw c.in-Some.is at c.find.ensures.within in
    rw c.at.ensures (looked_up c.args.name.now c.in-Some.place within (subst
    (λ text. Spells text (name_of c.in-Some.place)) c.as_bytes.ensures.value spelled))
