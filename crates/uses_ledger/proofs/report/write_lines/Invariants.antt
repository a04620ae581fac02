use Rattle.std.proofs.Common.{take}
use Rattle.std.specs.List.{flat_map}
use Rattle.std.specs.Io.KnownBytes.{Appends}
use Rattle.uses_ledger.specs.Report.{entry_line}
use Rattle.uses_ledger.proofs.report.write_lines.Given as goal

-- the writer received the lines of the entries so far
abbrev pub invariant-loop-entry : goal.invariant-loop-entry
invariant-loop-entry g l =
    Appends (g.W.Write.contents l.initial.w) (g.W.Write.contents l.w) (flat_map (entry_line (g.F.Format.answers l.format) l.widths)
    (take l.entry-index l.entries))
