use Rattle.std.proofs.Common.{refl}
use lib.Utf8.{encode}
use Rattle.num_format_digits.specs.Sets.{locales}
use Rattle.num_format_digits.proofs.sets.locales.Goals as goal

pub returns : goal.returns
unfolding encode locales
returns c = refl
