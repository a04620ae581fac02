use Rattle.std.proofs.Common.{refl}
use lib.Utf8.{encode}
use Rattle.num_format_cldr.specs.Families.{families}
use Rattle.num_format_cldr.specs.Table.{members, table_names}
use Rattle.num_format_cldr.proofs.Rising.{names_rise, names_have_no_underscore}
use Rattle.num_format_cldr.proofs.names.Goals as goal

pub returns-clause-listed : goal.returns-clause-listed
unfolding encode families members table_names
returns-clause-listed c = refl

pub returns-clause-rising : goal.returns-clause-rising
returns-clause-rising c = names_rise

pub returns-clause-no_underscore : goal.returns-clause-no_underscore
returns-clause-no_underscore c = names_have_no_underscore
