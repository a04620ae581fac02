-- num_format_digits/proofs/laws/texts_read_back/Answers.antt
use Rattle.num_format_digits.proofs.TextLemmas.{reads_back}
use Rattle.num_format_digits.proofs.laws.texts_read_back.Goals as goal

pub returns : goal.returns
returns c = reads_back
