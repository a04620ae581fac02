use Rattle.std.proofs.Common.{refl, sym, rules}
use Rattle.num_format_locale.proofs.SearchLemmas.{ends_without, falls, rises, same_text}
use Rattle.num_format_locale.proofs.search.halve.Goals as goal

pub loop-low-preserved-in-Less : goal.loop-low-preserved-in-Less
loop-low-preserved-in-Less c =
    rw c.push.ensures.items (falls _ _ _ _ _ c.loop-low.invariant c.loop-low-test.true refl (sym c.in-Less.ensures))

pub loop-low-preserved : goal.loop-low-preserved
loop-low-preserved c =
    rw c.push.ensures.items (rises _ _ _ _ _ c.loop-low.invariant c.loop-low-test.true refl (sym c.in-Greater.ensures))

pub returns-in-Equal-clause-found : goal.returns-in-Equal-clause-found
returns-in-Equal-clause-found c = (same_text _ _ (sym c.in-Equal.ensures), (c.loop-low.places.items, c.push.ensures.items))

pub returns-clause-halved : goal.returns-clause-halved
returns-clause-halved c = ends_without _ _ _ _ c.loop-low.invariant (search rules)
