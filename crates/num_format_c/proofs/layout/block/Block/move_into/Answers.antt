use Rattle.std.proofs.Common.{arith}
use Rattle.std.proofs.Math.ListN.{drop_of_length-le}
use Rattle.num_format_c.proofs.layout.block.Block.move_into.Goals as goal

pub returns-clause-empty : goal.returns-clause-empty
returns-clause-empty c = drop_of_length-le c.self.inside.inner {i = 1024} (omega (arith, c.self.told))
