-- num_format_digits/proofs/laws/shown_texts/Answers.antt
use Rattle.num_format_digits.proofs.TextLemmas.{shown-chars}
use Rattle.num_format_digits.proofs.laws.shown_texts.Goals as goal

pub returns : goal.returns
returns c = shown-chars
