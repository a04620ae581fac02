use Rattle.regroup_core.proofs.RecordLemmas.{end-searched}
use Rattle.regroup_core.proofs.record.part_len.Goals as goal

pub returns-clause-end : goal.returns-clause-end
returns-clause-end c =
    rw (← c.quotes.ensures) (rw (← c.delimiter.ensures) (end-searched c.find_end.ensures.searched c.find_end.ensures.found))
