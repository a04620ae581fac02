use Rattle.std.proofs.Common.{sym, ◌∙◌}
use Rattle.regroup_stream.proofs.ListLemmas.{range-none, range-some}
use Rattle.regroup_stream.proofs.list.range_in.Goals as goal

pub returns-in-None : goal.returns-in-None
returns-in-None c =
    c.range_between-in-None.ensures ∙ sym (range-none c.args.part.now c.split_once.result c.in-None.is c.split_once.ensures.cases)

pub returns-in-Some : goal.returns-in-Some
returns-in-Some c =
    c.range_between.ensures ∙ range-some c.args.part.now c.split_once.result (
      c.in-Some.before,
      c.in-Some.after,
    ) c.in-Some.is c.split_once.ensures.cases
