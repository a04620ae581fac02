use Rattle.std.proofs.Common.{◌≡◌, ℕ, ◌+◌, ◌++◌, ◌<◌, ◌≤◌, length, drop}
use Rattle.num_format_c.specs.Layout.{offset_at, texts_of}
use Rattle.num_format_c.proofs.layout.printing.print_texts.Given as goal

abbrev pub invariant-loop-row : goal.invariant-loop-row
invariant-loop-row g l = record {
  rows : l.row ≤ g.P.Printer.rows l.printer;
  place : length (texts_of (g.P.Printer.text l.printer) l.row) + length l.block ≡ l.end;
  within : l.end ≤ length l.bytes;
  texts : texts_of (g.P.Printer.text l.printer) l.row ++ (l.block ++ drop l.end l.bytes)
      ≡ texts_of (g.P.Printer.text l.printer) (g.P.Printer.rows l.printer) ++ drop l.total l.initial.bytes;
  ends : (k : ℕ) → l.row < k → k ≤ g.P.Printer.rows l.printer → offset_at l.offset_type l.offsets k
      ≡ length (texts_of (g.P.Printer.text l.printer) k);
}

abbrev pub decreases-loop-row : goal.decreases-loop-row
decreases-loop-row g l = l.row
