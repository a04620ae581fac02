use Rattle.std.proofs.Common.{arith}
use Rattle.num_format_decimal.proofs.ScaleLemmas.{cannot_be_rescaled}
use Rattle.num_format_decimal.proofs.decimal.Decimal.rescale.Goals as goal

pub returns-in_default-clause-refused : goal.returns-in_default-clause-refused
returns-in_default-clause-refused c =
    cannot_be_rescaled c.args.rounding c.args.self c.args.scale (omega arith) c.in_default.ensures.bound c.in_default.ensures.magnitude
