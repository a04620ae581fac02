use Rattle.num_format_locale.proofs.VariantLemmas.{variants_differ}
use Rattle.num_format_locale.proofs.laws.variants_differ.Goals as goal

pub returns : goal.returns
returns c = variants_differ
