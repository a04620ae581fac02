use Rattle.std.proofs.Common.{arith, refl}
use Rattle.regroup_lines.proofs.CursorLemmas.{left-next}
use Rattle.regroup_lines.proofs.cursor.Cursor.next.Goals as goal

pub returns : goal.returns
returns c =
    let cursor = c.args.self.now in (
      left-next c.args.fields.now cursor.line.now cursor.start (omega (arith, c.if-self.false)) _ c.quotes.ensures _ _
          (c.find_end-len.ensures.searched, c.find_end-len.ensures.found),
      c.number_after.ensures.number,
      refl,
    )
