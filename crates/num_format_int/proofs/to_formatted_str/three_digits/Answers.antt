use Rattle.std.proofs.Common.{arith, ◌∙◌}
use Rattle.std.proofs.lemmas.Str.{IsCharBoundary-from_ascii}
use Rattle.num_format_int.specs.declared.to_formatted_str.TheConstants.{TRIPLES}
use Rattle.num_format_int.proofs.TripleLemmas.{triples_ascii, triple-cut}
use Rattle.num_format_int.proofs.to_formatted_str.three_digits.Goals as goal

pub range-requires-clause-start_boundary : goal.range-requires-clause-start_boundary
range-requires-clause-start_boundary c = λ _. IsCharBoundary-from_ascii TRIPLES.now _ triples_ascii (omega arith)

pub range-requires-clause-end_boundary : goal.range-requires-clause-end_boundary
range-requires-clause-end_boundary c = IsCharBoundary-from_ascii TRIPLES.now _ triples_ascii (omega arith)

pub returns : goal.returns
returns c = c.range.ensures.value ∙ triple-cut c.args.group c.requires
