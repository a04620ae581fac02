use Rattle.std.proofs.Common.{◌∙◌, subst}
use Rattle.num_format_int.specs.Kind.{signed_number}
use Rattle.num_format_parsing.specs.Parts.{HasReading}
use Rattle.num_format_parsing.proofs.CauseLemmas.{parses-judged}
use Rattle.num_format_parsing.proofs.strict.StrictParser.parse_any.Goals as goal

pub returns-in-Number : goal.returns-in-Number
returns-in-Number g c =
    let f = c.args.self.now in
    let sign = c.sign-sign.ensures in
    let read = subst (HasReading g.N.Sealed.kind f c.args.bytes.now c.sign-sign.result.is_negative) c.in-Number.is c.read.ensures in
    parses-judged g.N.Sealed.kind g.N.Sealed.value f c.args.bytes.now c.number_of.result sign.symbols
    (c.number_of.ensures f c.args.bytes.now sign read)

pub returns-in-TooLarge : goal.returns-in-TooLarge
returns-in-TooLarge g c =
    let f = c.args.self.now in
    let sign = c.sign-sign.ensures in
    let negative = c.sign-sign.result.is_negative in
    let read = subst (HasReading g.N.Sealed.kind f c.args.bytes.now negative) c.in-TooLarge.is c.read.ensures in
    parses-judged g.N.Sealed.kind g.N.Sealed.value f c.args.bytes.now _ sign.symbols (
      sign.symbols.unambiguous,
      record { number = signed_number negative read.0; canonical = read.2; wrong = read.1 },
    )

pub returns-in-NotCanonical : goal.returns-in-NotCanonical
returns-in-NotCanonical g c =
    let f = c.args.self.now in
    let sign = c.sign-sign.ensures in
    let read = subst (HasReading g.N.Sealed.kind f c.args.bytes.now c.sign-sign.result.is_negative) c.in-NotCanonical.is c.read.ensures in
    parses-judged g.N.Sealed.kind g.N.Sealed.value f c.args.bytes.now _ sign.symbols
    (c.cause.ensures f sign.symbols (c.as_bytes.ensures.value ∙ c.separator.ensures.same) sign.long read g.N.Sealed.kind)
