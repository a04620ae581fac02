use Rattle.std.proofs.Common.{refl}
use lib.Utf8.{encode}
use Rattle.num_format_cldr.specs.Families.{families}
use Rattle.num_format_cldr.specs.Table.{members, table_names}
use Rattle.num_format_locale.proofs.locale.variant_names.Goals as goal

pub returns : goal.returns
unfolding encode families members table_names
returns c = refl
