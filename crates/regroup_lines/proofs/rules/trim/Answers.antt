use Rattle.regroup_lines.proofs.Common.{refl, slice_range}
use Rattle.regroup_lines.proofs.PlaceLemmas.{trim_found}
use Rattle.regroup_lines.proofs.rules.trim.Goals as goal

pub returns-clause-place : goal.returns-clause-place
returns-clause-place c =
    let text = c.args.text.now in
    let rest = c.trim_ascii_start-rest in
    let number = c.trim_ascii_end-number in
    trim_found text (slice_range text c.args.place.start c.args.place.end) rest.result.now number.result.now c.args.place.start
    c.args.place.end
    refl c.requires.ordered c.requires.within rest.ensures.value number.ensures.value
