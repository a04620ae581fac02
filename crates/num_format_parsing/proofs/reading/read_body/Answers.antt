use Rattle.std.proofs.Common.{◌^◌}
use Rattle.num_format_int.specs.Kind.{IsWithin}
use Rattle.num_format_parsing.proofs.CauseLemmas.{reading-past}
use Rattle.num_format_parsing.proofs.reading.read_body.Goals as goal

pub returns : goal.returns
returns g c =
    let within : IsWithin (2 ^ 128) g.N.Sealed.kind = rw c.if-not-is_wide.false at c.is_wide.ensures.within in
    reading-past (2 ^ 128) g.N.Sealed.kind within c.args.grouping c.args.separator.now c.args.text.now c.read_wide.result
    c.read_wide.ensures
