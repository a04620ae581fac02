use Rattle.std.proofs.lemmas.Option.{IfSome_then}
use Rattle.num_format_parsing.proofs.CanonicalLemmas.{canonical-digits}
use Rattle.num_format_parsing.proofs.groups.read_short.Goals as goal

pub returns : goal.returns
returns c = IfSome_then c.first_digits.result c.first_digits.ensures (λ n read f sign.
    canonical-digits f c.args.text.now c.args.sign.is_negative c.args.sign.len n sign
    (c.begins_with_digit.ensures.0 c.if-not-begins_with_digit.false) read.0 read.1)
