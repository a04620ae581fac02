use Rattle.regroup_lines.proofs.Common.{◌≡◌, array_len, held, by_writer}
use Rattle.regroup_lines.proofs.LongLemmas.{SentLong}
use Rattle.regroup_lines.proofs.send_long.Given as goal

-- so many pieces were sent after the first
abbrev pub invariant-loop : goal.invariant-loop
invariant-loop g l =
    SentLong l.rules l.fn.number l.number l.within l.is_ended (held l.fn.input) (g.R.Read.remaining l.fn.r) (g.R.Read.remaining l.r)
    (λ told. by_writer (g.W.Write.contents l.fn.w) told (g.X.Write.contents l.fn.x))
    (λ told. by_writer (g.W.Write.contents l.w) told (g.X.Write.contents l.x)) l.counter (held l.input)
    × (array_len l.input ≡ array_len l.fn.input)
