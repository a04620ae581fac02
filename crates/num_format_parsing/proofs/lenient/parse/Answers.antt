use Rattle.std.proofs.Common.{◌∙◌, sym, subst}
use Rattle.num_format_parsing.specs.Parts.{IsCanonicalReading}
use Rattle.num_format_parsing.proofs.ToldLemmas.{denotes, refuses-large}
use Rattle.num_format_parsing.proofs.lenient.parse.Goals as goal

pub returns-in-Some : goal.returns-in-Some
returns-in-Some g c =
    let read = c.in-Some.ensures in
    let made = c.from_sign_and_magnitude.ensures in
    denotes g.N.Sealed.kind g.N.Sealed.value (g.F.Format.answers c.args.format.now) c.args.bytes.now c.in-Some.sign.is_negative
    c.in-Some.magnitude c.from_sign_and_magnitude.result
    (record { limit = sym c.limit.ensures.limit ∙ c.limit.ensures.longest; low = c.limit.ensures.low; unsigned = made.unsigned })
    (read.0.symbols, read.0.tested, read.1) made.value

pub returns-in-Number : goal.returns-in-Number
returns-in-Number g c =
    let f = g.F.Format.answers c.args.format.now in
    let read = subst (IsCanonicalReading g.N.Sealed.kind f c.args.bytes.now c.read_canonical-is_negative.result.0) c.in-Number.is
    c.read_canonical-is_negative.ensures in
    let made = c.from_sign_and_magnitude-in-Number.ensures in
    denotes g.N.Sealed.kind g.N.Sealed.value f c.args.bytes.now c.read_canonical-is_negative.result.0 c.in-Number.magnitude
    c.from_sign_and_magnitude-in-Number.result
    (record { limit = sym c.limit.ensures.limit ∙ c.limit.ensures.longest; low = c.limit.ensures.low; unsigned = made.unsigned }) read
    made.value

pub returns-in-TooLarge : goal.returns-in-TooLarge
returns-in-TooLarge g c =
    let f = g.F.Format.answers c.args.format.now in
    refuses-large g.N.Sealed.kind f c.args.bytes.now c.read_canonical-is_negative.result.0
    (subst (IsCanonicalReading g.N.Sealed.kind f c.args.bytes.now c.read_canonical-is_negative.result.0) c.in-TooLarge.is
    c.read_canonical-is_negative.ensures)
