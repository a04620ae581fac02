use Rattle.std.proofs.Common.{length}
use Rattle.num_format_writers.specs.Writing.{HasReceivedUpTo}
use Rattle.num_format_writers.proofs.to_formatted_string.write_whole.Given as goal

-- what the writer received so far and the rest make the whole
abbrev pub invariant-loop-rest : goal.invariant-loop-rest
invariant-loop-rest g l = HasReceivedUpTo (g.W.Write.contents l.initial.w) (g.W.Write.contents l.w) l.bytes l.rest

abbrev pub decreases-loop-rest : goal.decreases-loop-rest
decreases-loop-rest g l = length l.rest
