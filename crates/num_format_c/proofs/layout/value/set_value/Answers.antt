use Rattle.std.proofs.Common.{◌≡◌, ◌+◌, ◌-◌, ◌*◌, length, arith}
use Rattle.num_format_c.proofs.ByteLemmas.{row_left}
use Rattle.num_format_c.proofs.layout.value.set_value.Goals as goal

pub returns-clause-others : goal.returns-clause-others
returns-clause-others g c =
    let size = g.N.Value.repr.size in
    let row = c.args.row in
    let long : length c.write.new.bytes ≡ size = omega arith in
    let whole : row * size + size - row * size ≡ size = omega arith in
    rw (c.size.ensures.size, c.size-2.ensures.size) (row_left size row
    (row * size + size - row * size) c.args.values.now c.write.new.bytes c.requires long whole)
