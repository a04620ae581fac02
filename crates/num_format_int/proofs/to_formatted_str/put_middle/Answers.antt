use Rattle.std.proofs.Common.{◌∙◌, arith}
use Rattle.num_format_int.proofs.DigitLemmas.{digits_given, length-leading_one}
use Rattle.num_format_int.proofs.GroupLemmas.{middle_groups}
use Rattle.num_format_int.proofs.to_formatted_str.put_middle.Goals as goal

pub put_full_groups-requires-clause-fits : goal.put_full_groups-requires-clause-fits
put_full_groups-requires-clause-fits g c =
    omega (arith, c.requires.fits, length-leading_one _ _ _ (c.LEADING.ensures ∙ g.met.L.LastGroup.leading) c.requires.part)

pub returns-clause-text : goal.returns-clause-text
returns-clause-text g c =
    let p = c.put_full_groups.ensures in
    middle_groups _ _ _ _ _ _ _ _ _ g.met.G.Groups.size g.met.G.Groups.base (c.LEADING.ensures ∙ g.met.L.LastGroup.leading)
    c.requires.whole c.requires.part p.first p.text

pub returns-clause-fits : goal.returns-clause-fits
returns-clause-fits g c =
    omega (
      arith,
      length-leading_one _ _ _ (c.LEADING.ensures ∙ g.met.L.LastGroup.leading) c.requires.part,
      c.put_full_groups.ensures.fits,
      digits_given c.put_full_groups.result,
    )
