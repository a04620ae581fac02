-- num_format_digits/proofs/laws/texts_of_one_set/Answers.antt
use Rattle.num_format_digits.proofs.TextLemmas.{one_set}
use Rattle.num_format_digits.proofs.laws.texts_of_one_set.Goals as goal

pub returns : goal.returns
returns c = one_set
