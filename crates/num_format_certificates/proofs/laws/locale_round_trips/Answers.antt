use Rattle.num_format_cldr.proofs.Facts.{entry_is_well_formed}
use Rattle.num_format_parsing.proofs.CommonLemmas.{unambiguous_from_common}
use Rattle.num_format_certificates.proofs.laws.locale_round_trips.Goals as goal

pub returns : goal.returns
returns c =
    let well = entry_is_well_formed c.args.locale c.name.ensures.within in
    let utf8 = c.format_data.ensures.utf8 in
    (c.round_trips.ensures.characters _ utf8.minus_sign utf8.separator).1
    (unambiguous_from_common _ (record { sign_given = well.min_given; sign = well.min_characters; separator = well.sep_characters }))
