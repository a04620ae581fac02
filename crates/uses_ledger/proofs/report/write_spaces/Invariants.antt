use Rattle.std.specs.Prelude.{replicate}
use Rattle.std.specs.Io.KnownBytes.{Appends}
use Rattle.uses_ledger.proofs.report.write_spaces.Given as goal

-- the writer received as many spaces as turns have passed
abbrev pub invariant-loop : goal.invariant-loop
invariant-loop g l = Appends (g.W.Write.contents l.initial.w) (g.W.Write.contents l.w) (replicate l.counter 32)
