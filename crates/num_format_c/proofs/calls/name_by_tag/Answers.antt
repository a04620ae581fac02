use Rattle.std.proofs.Common.{length, ap, arith}
use Rattle.num_format_c.proofs.NameLemmas.{short}
use Rattle.num_format_c.proofs.calls.name_by_tag.Goals as goal

pub write-requires : goal.write-requires
write-requires c =
    let bound = short _ c.name.ensures.within in
    omega (arith, ap length c.name.ensures.same, bound)
