use Rattle.std.proofs.Common.{subst, sym}
use Rattle.num_format_c.specs.Calls.{returned}
use Rattle.num_format_c.specs.Columns.{PrintsRows, to_printed}
use Rattle.num_format_c.proofs.DigitLemmas.{latin, latin_rows}
use Rattle.num_format_c.proofs.columns.print_in.Goals as goal

pub returns-then-is_latin : goal.returns-then-is_latin
returns-then-is_latin g c =
    let a = c.args in
    let new = c.print_rows.new in
    subst (λ text. PrintsRows text (g.P.Printer.rows a.printer.now) a.offset_type (to_printed a.offsets.now a.bytes.now a.len.now)
    (to_printed new.offsets new.bytes new.len) (returned c.print_rows.result))
    (sym (latin_rows (g.P.Printer.text a.printer.now) (latin c.is_latin.ensures c.if-is_latin.true))) c.print_rows.ensures
