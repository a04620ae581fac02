use Rattle.std.proofs.Common.{refl}
use lib.Utf8.{encode}
use Rattle.num_format_digits.specs.Sets.{sets}
use Rattle.num_format_digits.proofs.sets.sets.Goals as goal

pub returns-clause-listed : goal.returns-clause-listed
unfolding encode sets
returns-clause-listed c = refl
