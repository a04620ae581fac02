-- num_format_digits/proofs/printing/DigitText/write_text/Answers.antt
use Rattle.std.proofs.Common.{arith, subst, sym, IsUtf8}
use Rattle.std.proofs.lemmas.Grind.{merely}
use Rattle.num_format_digits.proofs.TextLemmas.{shown-chars}
use Rattle.num_format_digits.proofs.printing.DigitText.write_text.Goals as goal

pub invariant_of-self : goal.invariant_of-self
invariant_of-self c =
    let p = c.put_text-len.ensures in (
      omega (arith, p.bound, c.requires, c.as_bytes.ensures.len),
      omega (arith, p.length),
      merely (subst IsUtf8 (sym p.text) (shown-chars c.args.digits c.as_bytes.result.now p.set c.as_bytes.ensures.utf8).0),
    )
