use Rattle.std.proofs.Common.{◌∙◌, ◌++◌, ap, arith}
use Rattle.num_format_text.specs.Cut.{cut_text}
use Rattle.num_format_text.specs.declared.capacities.TheConstants.{MAX_ERR_LEN}
use Rattle.num_format_text.proofs.CutLemmas.{last_boundary-is}
use Rattle.num_format_text.proofs.error.keep.Goals as goal

pub returns : goal.returns
unfolding cut_text
returns c =
    let end = c.floor_char_boundary-end in
    let last = last_boundary-is c.args.text.now MAX_ERR_LEN end.result end.ensures.bound end.ensures.boundary end.ensures.nearest in
    c.push_str.ensures.bytes
    ∙ ap (λ kept. kept ++ c.range.result.now) c.requires
    ∙ c.range.ensures.value
    ∙ rw last (grind arith)
