use Rattle.regroup_lines.proofs.Common.{◌≡◌, ◌-◌, length, Keeps, Reads, Searched, array_len, held, quotes_in}
use Rattle.regroup_lines.proofs.input.Input.next_piece.Given as goal

-- more bytes may be held than at first, no record ends in those that were searched, and the writer was only flushed
abbrev pub invariant-reads : goal.invariant-reads
invariant-reads g l =
    Reads (held l.initial.self) (held l.self) (g.R.Read.remaining l.initial.reader) (g.R.Read.remaining l.reader)
    × Searched (quotes_in l.rules.span) l.rules.line_end l.fn.within (held l.self) l.searched l.here
    × (array_len l.self ≡ array_len l.initial.self) × Keeps (g.W.Write.contents l.initial.writer) (g.W.Write.contents l.writer)

abbrev pub decreases-reads : goal.decreases-reads
decreases-reads g l = array_len l.self - length (held l.self)
