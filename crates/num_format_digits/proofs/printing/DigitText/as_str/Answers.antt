-- num_format_digits/proofs/printing/DigitText/as_str/Answers.antt
use Rattle.std.proofs.lemmas.Str.{IsUtf8-had}
use Rattle.num_format_digits.proofs.printing.DigitText.as_str.Goals as goal

pub from_utf8_unchecked-requires : goal.from_utf8_unchecked-requires
from_utf8_unchecked-requires c = IsUtf8-had _ c.self.invariant.2
