use Rattle.std.proofs.Common.{◌≡◌, ◌∙◌, ◌+◌, ◌-◌, ◌++◌, arith, length, ap, append_assoc, length-append, drop}
use Rattle.std.proofs.lemmas.List.{length-drop}
use Rattle.num_format_c.specs.Layout.{offset_at, texts_of}
use Rattle.num_format_c.proofs.LayoutLemmas.{length_texts_le, texts_more, ends_more}
use Rattle.num_format_c.proofs.layout.printing.print_texts.Goals as goal

pub set-requires-clause-fits : goal.set-requires-clause-fits
set-requires-clause-fits g c =
    let inv = c.loop-row.invariant in
    let least = length_texts_le (g.P.Printer.text c.args.printer.now) c.loop-row.row (g.P.Printer.rows c.args.printer.now) inv.rows in
    omega (arith, least, inv.place, c.make_room-end.ensures.start)

pub loop-row-preserved : goal.loop-row-preserved
loop-row-preserved g c =
    let text = g.P.Printer.text c.args.printer.now in
    let row = c.loop-row.row in
    let inv = c.loop-row.invariant in
    let room = c.make_room-end.ensures in
    let end = c.make_room-end.result in
    let block = c.make_room-end.new.self in
    let back : row - 1 + 1 ≡ row = omega arith in
    let more = rw back at (texts_more text (row - 1)) in
    let both = ap length c.print.ensures ∙ length-append (text (row - 1)) block in
    record {
      rows = omega arith;
      place = omega (arith, ap length more, length-append (texts_of text (row - 1)) (text (row - 1)), both, inv.place, room.start);
      within = omega (arith, simp (length-append, length-drop) at (ap length room.texts), room.start, inv.within);
      texts =
          rw (
            c.print.ensures,
            append_assoc (text (row - 1)) block (drop end c.make_room-end.new.bytes),
            ← append_assoc (texts_of text (row - 1)) (text (row - 1)) (block ++ drop end c.make_room-end.new.bytes),
            ← more,
            room.texts,
          ) inv.texts;
      ends =
          λ k above. ends_more text (offset_at c.args.offset_type c.loop-row.offsets) (offset_at c.args.offset_type c.set.new.offsets)
          (g.P.Printer.rows c.args.printer.now) row
          inv.ends (omega (arith, c.set.ensures.written, inv.place, room.start)) c.set.ensures.others k (omega (arith, above));
    }

pub returns-clause-ends : goal.returns-clause-ends
returns-clause-ends g c =
    λ k. ends_more (g.P.Printer.text c.args.printer.now) (offset_at c.args.offset_type c.loop-row.offsets)
    (offset_at c.args.offset_type c.set-2.new.offsets) (g.P.Printer.rows c.args.printer.now) 0
    (λ j some. c.loop-row.invariant.ends j (omega (arith, some))) c.set-2.ensures.written c.set-2.ensures.others k (omega arith)
