use Rattle.std.proofs.Common.{IsUtf8, subst, sym}
use Rattle.regroup_faults.proofs.NotationLemmas.{ascii-utf8}
use Rattle.regroup_faults.proofs.message.why_in_digits.Goals as goal

pub returns-in-Err-from_utf8 : goal.returns-in-Err-from_utf8
returns-in-Err-from_utf8 g c =
    absurd (c.in-Err-from_utf8.ensures.cases.0 (subst IsUtf8 (sym c.in-Ok.ensures.text.1) (ascii-utf8 _ c.args.text.now c.utf8.text)))
