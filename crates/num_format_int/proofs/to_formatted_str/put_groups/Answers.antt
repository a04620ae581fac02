use Rattle.num_format_int.proofs.GroupLemmas.{all_digits}
use Rattle.num_format_int.proofs.to_formatted_str.put_groups.Goals as goal

pub returns : goal.returns
returns g c =
    let p = c.put_full_groups-first.ensures in
    all_digits _ _ _ _ _ _ _ _ g.met.G.Groups.size g.met.G.Groups.base p.first p.text c.put_first_group.ensures
