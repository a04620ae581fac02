use Rattle.std.proofs.Common.{length, subst, sym}
use Rattle.num_format_c.specs.Calls.{returned}
use Rattle.num_format_c.specs.Columns.{Measures}
use Rattle.num_format_c.specs.Layout.{texts_of}
use Rattle.num_format_c.proofs.DigitLemmas.{latin, latin_rows}
use Rattle.num_format_c.proofs.columns.measure_in.Goals as goal

pub returns-then-is_latin : goal.returns-then-is_latin
returns-then-is_latin g c =
    let p = c.args.printer.now in
    subst (λ text. Measures (length (texts_of text (g.P.Printer.rows p))) c.args.len.now c.measure_rows.new.len
    (returned c.measure_rows.result))
    (sym (latin_rows (g.P.Printer.text p) (latin c.is_latin.ensures c.if-is_latin.true))) c.measure_rows.ensures
