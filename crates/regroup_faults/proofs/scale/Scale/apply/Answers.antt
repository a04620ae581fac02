use Rattle.regroup_faults.proofs.ScaleLemmas.{scaled-is}
use Rattle.regroup_faults.proofs.scale.Scale.apply.Goals as goal

pub returns : goal.returns
returns c =
    let is = c.rescale.ensures in
    scaled-is c.args.self c.args.number c.rescale.result is.decimal is.accepted is.refused
