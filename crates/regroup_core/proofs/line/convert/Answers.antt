use Rattle.regroup_core.proofs.Common.{ap, arith, length, take, ◌∙◌, ◌≡◌}
use Rattle.regroup_core.proofs.AddLemmas.{taken-off}
use Rattle.regroup_core.proofs.line.convert.Goals as goal

pub returns-in-Err : goal.returns-in-Err
returns-in-Err g c =
    let len : c.len-len.result ≡ length c.args.out.now.items = omega (arith, c.len-len.ensures, c.args.out.now.ok) in
    taken-off _ c.args.out.now.items c.append_record.new.out.items _ c.in-Err.cause c.in-Err.ensures
    (c.truncate.ensures.items ∙ ap (λ n. take n c.append_record.new.out.items) len)
