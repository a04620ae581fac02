use Rattle.std.proofs.Common.{Ok, Err, subst}
use Rattle.num_format_int.specs.Kind.{signed_number}
use Rattle.num_format_parsing.specs.Parts.{HasReading}
use Rattle.num_format_parsing.specs.Strict.{IsOutOfRange}
use Rattle.num_format_parsing.specs.declared.error.StrictError.TheVariants as cause
use Rattle.num_format_parsing.proofs.CauseLemmas.{parses-judged}
use Rattle.num_format_parsing.proofs.RefusalLemmas.{cause-given}
use Rattle.num_format_parsing.proofs.strict.StrictParser.number.Goals as goal

pub returns-in-Ok : goal.returns-in-Ok
returns-in-Ok g c =
    let f = c.args.self.now in
    let t = c.args.bytes.now in
    let sign = c.sign-sign.ensures in
    let read = subst (HasReading g.N.Sealed.kind f t c.sign-sign.result.is_negative) c.in-Number.is c.read.ensures in
    parses-judged g.N.Sealed.kind g.N.Sealed.value f t (Ok c.in-Ok.number) sign.symbols (c.in-Ok.ensures f t sign read)

pub returns-in-Err : goal.returns-in-Err
returns-in-Err g c =
    let f = c.args.self.now in
    let t = c.args.bytes.now in
    let sign = c.sign-sign.ensures in
    let read = subst (HasReading g.N.Sealed.kind f t c.sign-sign.result.is_negative) c.in-Number.is c.read.ensures in
    (_, parses-judged g.N.Sealed.kind g.N.Sealed.value f t (Err c.in-Err.field-0) sign.symbols (c.in-Err.ensures f t sign read))

pub returns-in-TooLarge : goal.returns-in-TooLarge
returns-in-TooLarge g c =
    let f = c.args.self.now in
    let t = c.args.bytes.now in
    let sign = c.sign-sign.ensures in
    let negative = c.sign-sign.result.is_negative in
    let read = subst (HasReading g.N.Sealed.kind f t negative) c.in-TooLarge.is c.read.ensures in
    let why : IsOutOfRange g.N.Sealed.kind f t = record { number = signed_number negative read.0; canonical = read.2; wrong = read.1 } in
    (cause.OutOfRange, parses-judged g.N.Sealed.kind g.N.Sealed.value f t _ sign.symbols (sign.symbols.unambiguous, why))

pub returns-in-NotCanonical : goal.returns-in-NotCanonical
returns-in-NotCanonical g c =
    let f = c.args.self.now in
    let t = c.args.bytes.now in
    let sign = c.sign-sign.ensures in
    let read = subst (HasReading g.N.Sealed.kind f t c.sign-sign.result.is_negative) c.in-NotCanonical.is c.read.ensures in
    let why = cause-given g.N.Sealed.kind f t sign.symbols read in
    (why.0, parses-judged g.N.Sealed.kind g.N.Sealed.value f t (Err why.0) sign.symbols why.1)
