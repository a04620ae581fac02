use Rattle.std.proofs.Common.{map}
use Rattle.std.specs.List.{AllZip}
use Rattle.uses_ledger.specs.Entry.{IsLineOf}
use Rattle.uses_ledger.proofs.entry.read_entries.Given as goal

-- the entries are those of the lines so far
abbrev pub invariant-loop-line : goal.invariant-loop-line
invariant-loop-line g l = AllZip (IsLineOf (g.F.Format.answers l.format)) (map (λ line. line.now) l.yielded) l.entries.items
