use Rattle.std.proofs.Common.{arith}
use Rattle.num_format_locale.specs.Names.{name_of}
use Rattle.num_format_locale.proofs.PairLemmas.{of_pair}
use Rattle.num_format_locale.proofs.search.narrowed.Goals as goal
use Rattle.num_format_locale.proofs.search.narrowed.Goals.{then-not-is_ascii_lowercase-via-then-not-is_ascii_lowercase}
use Rattle.num_format_locale.proofs.search.narrowed.Goals.{then-not-is_ascii_lowercase-via-else-not-is_ascii_lowercase+then-not-is_ascii_lowercase-2}

pub returns-then-not-is_ascii_lowercase-clause-kept : goal.returns-then-not-is_ascii_lowercase-clause-kept
returns-then-not-is_ascii_lowercase-clause-kept c = λ place within same.
    let so = c.first_places-places.ensures.listed place within in
    let pair = of_pair _ place c.args.text.now (name_of place) 0 0 so same in
    elim c.then-not-is_ascii_lowercase.branch [
      | then-not-is_ascii_lowercase-via-then-not-is_ascii_lowercase w ↦ let letter = pair.first_letter in let other =
          w.if-not-is_ascii_lowercase.ensures.cases in absurd (omega arith)
      | then-not-is_ascii_lowercase-via-else-not-is_ascii_lowercase+then-not-is_ascii_lowercase-2 w ↦ let letter = pair.second_letter
          in let other = w.if-not-is_ascii_lowercase-2.ensures.cases in absurd (omega arith)
    ]

pub returns-clause-kept : goal.returns-clause-kept
returns-clause-kept c = λ place within same.
    let so = c.first_places-places.ensures.listed place within in
    let pair = of_pair _ place c.args.text.now (name_of place) 0 0 so same in
    rw (c.to_ascii_lowercase-first.ensures.value, c.to_ascii_lowercase-second.ensures.value) (pair.from, pair.below)
