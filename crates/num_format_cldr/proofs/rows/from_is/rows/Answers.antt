-- Written by tools/locales.py from specs/; do not edit.
use Rattle.std.proofs.Common.{refl}
use lib.Utf8.{encode}
use Rattle.num_format_cldr.specs.Families.{families}
use Rattle.num_format_cldr.specs.Table.{members, piece}
use Rattle.num_format_cldr.proofs.Shown.{ShowsAll-from_equal}
use Rattle.num_format_cldr.proofs.rows.from_is.rows.Goals as goal

pub returns : goal.returns
unfolding encode families members piece
returns c = ShowsAll-from_equal _ _ refl
