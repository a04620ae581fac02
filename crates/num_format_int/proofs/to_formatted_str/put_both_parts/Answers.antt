use Rattle.std.proofs.Common.{arith}
use Rattle.num_format_int.proofs.DigitLemmas.{digits_given, length-joined}
use Rattle.num_format_int.proofs.GroupLemmas.{both_parts}
use Rattle.num_format_int.proofs.to_formatted_str.put_both_parts.Goals as goal

pub put_middle-requires-clause-fits : goal.put_middle-requires-clause-fits
put_middle-requires-clause-fits g c =
    omega (arith, c.requires.fits, length-joined _ _ _ c.requires.first c.requires.middle, digits_given c.args.first)

pub put_groups-requires-clause-fits : goal.put_groups-requires-clause-fits
put_groups-requires-clause-fits g c =
    omega (arith, c.requires.fits, length-joined _ _ _ c.requires.first c.requires.middle, c.put_middle.ensures.fits)

pub returns : goal.returns
returns g c = both_parts _ _ _ _ _ _ _ _ c.requires.first c.requires.middle c.put_middle.ensures.text c.put_groups.ensures
