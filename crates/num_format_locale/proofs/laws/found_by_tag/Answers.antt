use Rattle.num_format_locale.proofs.TagLemmas.{found_by_tag}
use Rattle.num_format_locale.proofs.laws.found_by_tag.Goals as goal

pub returns : goal.returns
returns c = found_by_tag
