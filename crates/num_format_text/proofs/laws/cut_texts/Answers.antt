use Rattle.num_format_text.specs.Cut.{cut_text}
use Rattle.num_format_text.specs.declared.capacities.TheConstants.{MAX_ERR_LEN}
use Rattle.num_format_text.proofs.CutLemmas.{longest_prefix}
use Rattle.num_format_text.proofs.laws.cut_texts.Goals as goal

pub returns : goal.returns
unfolding cut_text
returns c = longest_prefix MAX_ERR_LEN
