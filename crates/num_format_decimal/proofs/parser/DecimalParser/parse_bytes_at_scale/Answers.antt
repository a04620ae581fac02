use Rattle.std.proofs.Common.{arith, rules}
use Rattle.std.proofs.lemmas.Grind.{common_steps}
use Rattle.num_format_decimal.proofs.parser.DecimalParser.parse_bytes_at_scale.Goals as goal

pub returns-in-Ok-rescale : goal.returns-in-Ok-rescale
returns-in-Ok-rescale g c = first_of (search rules, grind (arith, common_steps))
