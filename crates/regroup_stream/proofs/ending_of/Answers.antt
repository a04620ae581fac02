use Rattle.std.proofs.Common.{arith, ◌≡◌, true, ap, ◌∙◌}
use Rattle.regroup_stream.specs.Ending.End.{Faulty}
use Rattle.regroup_stream.proofs.FaultyLemmas.{faulty, is_of_line}
use Rattle.regroup_stream.proofs.ending_of.Goals as goal

pub returns-in-TooLong : goal.returns-in-TooLong
returns-in-TooLong c =
    let told : is_of_line c.in-Err.fault ≡ true = grind (arith, c.in-TooLong.is) in
    rw (c.in-Err.is) (ap Faulty c.fault_message.ensures ∙ faulty c.args.rules.now c.args.name.now c.args.from.now c.args.failure
    c.in-Err.fault told)
