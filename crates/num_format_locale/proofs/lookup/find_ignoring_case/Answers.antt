use Rattle.std.proofs.Common.{rules}
use Rattle.std.specs.Cmp.Lexicographic.{slice_cmp}
use Rattle.std.specs.Ordering.{nat_cmp}
use Rattle.std.proofs.lemmas.Fn.{always_returns_same}
use Rattle.num_format_locale.specs.Search.{hyphened}
use Rattle.num_format_locale.proofs.LookupLemmas.{lower, searched}
use Rattle.num_format_locale.proofs.lookup.find_ignoring_case.Goals as goal

pub returns-in-Ok-clause-found : goal.returns-in-Ok-clause-found
returns-in-Ok-clause-found c =
    let at = c.binary_search_by.ensures.position (λ name. slice_cmp nat_cmp (lower name.now) (lower (hyphened c.args.text.now)))
    (always_returns_same _ _ _ (λ a r f k. search rules)) in
    let found =
    searched c.names.result.now c.names.ensures.listed c.narrowed-low.result.0 c.narrowed-low.result.1 c.narrowed-low.ensures.ordered
    c.narrowed-low.ensures.within (lower (hyphened c.args.text.now)) c.args.text c.binary_search_by.result
    c.binary_search_by.ensures.bound at in
    (rw c.in-Ok.is at found).1

pub returns-in-Err-clause-missing : goal.returns-in-Err-clause-missing
returns-in-Err-clause-missing c = λ place within same.
    let at = c.binary_search_by.ensures.position (λ name. slice_cmp nat_cmp (lower name.now) (lower (hyphened c.args.text.now)))
    (always_returns_same _ _ _ (λ a r f k. search rules)) in
    let missing =
    searched c.names.result.now c.names.ensures.listed c.narrowed-low.result.0 c.narrowed-low.result.1 c.narrowed-low.ensures.ordered
    c.narrowed-low.ensures.within (lower (hyphened c.args.text.now)) c.args.text c.binary_search_by.result
    c.binary_search_by.ensures.bound at in
    let range = c.narrowed-low.ensures.kept place within same in
    (rw c.in-Err.is at missing) place range.0 range.1 same
