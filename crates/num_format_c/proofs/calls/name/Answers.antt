use Rattle.std.proofs.Common.{rules}
use Rattle.num_format_c.proofs.NameLemmas.{short_at}
use Rattle.num_format_c.proofs.calls.name.Goals as goal

pub write-requires : goal.write-requires
write-requires c =
    short_at c.available_names-names.result.now c.available_names-names.ensures.listed c.available_names-names.ensures.count c.args.place _
    (search rules)
