use Rattle.regroup_lines.proofs.Common.{is_utf8-from_IsUtf8, refl, ◌∙◌}
use Rattle.regroup_faults.proofs.NotationLemmas.{ascii-some, ascii-utf8}
use Rattle.regroup_lines.proofs.number.Parser.read_text.Goals as goal

pub returns-in-Ok : goal.returns-in-Ok
returns-in-Ok g c =
    let z = c.self.inside.digits in
    let text = c.args.text.now in
    let other = rw (← c.self.view_is) at c.requires in
    let is = c.in-Ok.ensures.text in
    c.read_ascii.ensures ∙ rw (
      ← c.self.view_is,
      is.1,
      is_utf8-from_IsUtf8 _ (ascii-utf8 z text c.utf8.text),
      ascii-some z text other is.0 (rw is.1 at c.in-Ok.ensures.fits),
    ) refl
