use Rattle.num_format_parsing.proofs.CauseLemmas.{parses-judged}
use Rattle.num_format_parsing.proofs.strict.parse_strict.Goals as goal

pub returns-in-Some : goal.returns-in-Some
returns-in-Some g c =
    let f = g.F.Format.answers c.args.format.now in
    let read = c.in-Some.ensures in
    parses-judged g.N.Sealed.kind g.N.Sealed.value f c.args.bytes.now c.number_of.result read.0.symbols
    (c.number_of.ensures f c.args.bytes.now read.0 read.1)
