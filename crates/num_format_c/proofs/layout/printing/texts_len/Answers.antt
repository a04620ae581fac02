use Rattle.std.proofs.Common.{rules, arith}
use Rattle.num_format_c.proofs.LayoutLemmas.{length_texts_fit}
use Rattle.num_format_c.proofs.layout.printing.texts_len.Goals as goal

pub returns-in_err-len : goal.returns-in_err-len
returns-in_err-len g c =
    let fits = length_texts_fit (g.P.Printer.text c.args.printer.now) c.loop-row.row (g.P.Printer.rows c.args.printer.now) (omega arith) in
    search (rules, fits)
