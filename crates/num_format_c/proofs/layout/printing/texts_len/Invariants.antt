use Rattle.std.proofs.Common.{◌≡◌, length}
use Rattle.num_format_c.specs.Layout.{texts_of}
use Rattle.num_format_c.proofs.layout.printing.texts_len.Given as goal

abbrev pub invariant-loop-row : goal.invariant-loop-row
invariant-loop-row g l = l.len ≡ length (texts_of (g.P.Printer.text l.printer) l.row)
