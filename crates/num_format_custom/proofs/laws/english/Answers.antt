use Rattle.std.proofs.Common.{refl}
use lib.Utf8.{encode}
use Rattle.num_format_cldr.specs.Families.{families}
use Rattle.num_format_cldr.specs.Table.{members, table, table_names}
use Rattle.num_format_custom.proofs.laws.english.Goals as goal

pub returns : goal.returns
unfolding encode families members table table_names
returns c = record { named = refl; same = refl }
