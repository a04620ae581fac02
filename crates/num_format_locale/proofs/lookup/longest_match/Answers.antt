use Rattle.std.proofs.Common.{rules}
use borrow.Author.Tests.{tests}
use Rattle.num_format_locale.proofs.LookupLemmas.{found_if_some, next_at, none_at}
use Rattle.num_format_locale.proofs.lookup.longest_match.Goals as goal

pub returns-then-is_some-clause-matched : goal.returns-then-is_some-clause-matched
returns-then-is_some-clause-matched c =
    found_if_some c.args.language.now c.loop-place.end c.loop-place.invariant c.find_ignoring_case-place.result
    c.find_ignoring_case-place.ensures.found c.find_ignoring_case-place.ensures.within

pub returns-in_err-end-clause-missing : goal.returns-in_err-end-clause-missing
returns-in_err-end-clause-missing c =
    rw c.from_residual.ensures (none_at c.args.language.now c.loop-place.end c.loop-place.invariant c.find_ignoring_case-place.result
    (search rules)
    c.find_ignoring_case-place.ensures.missing (search (rules, tests)))

pub loop-place-preserved : goal.loop-place-preserved
loop-place-preserved c =
    next_at c.args.language.now c.loop-place.end c.loop-place.invariant c.find_ignoring_case-place.result (search rules)
    c.find_ignoring_case-place.ensures.missing c.in_ok-end.end (search (rules, tests)) (search (rules, tests)) (search (rules, tests))
