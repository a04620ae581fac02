use Rattle.num_format_cldr.proofs.Facts.{entry_is_well_formed}
use Rattle.num_format_locale.proofs.laws.well_formed_data.Goals as goal

pub returns : goal.returns
returns c = entry_is_well_formed
