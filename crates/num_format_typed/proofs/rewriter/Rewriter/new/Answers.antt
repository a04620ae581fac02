use Rattle.num_format_typed.proofs.TypableLemmas.{usual-symbols, usual-typable}
use Rattle.num_format_typed.proofs.rewriter.Rewriter.new.Goals as goal

pub typable-requires-clause-typable : goal.typable-requires-clause-typable
typable-requires-clause-typable g c =
    usual-typable (g.F.Format.answers c.args.format.now) (c.has_usual_symbols.ensures c.if-has_usual_symbols.true)

pub typable-requires-clause-symbols : goal.typable-requires-clause-symbols
typable-requires-clause-symbols g c =
    usual-symbols (g.F.Format.answers c.args.format.now) (c.has_usual_symbols.ensures c.if-has_usual_symbols.true)
