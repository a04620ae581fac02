use Rattle.std.proofs.Common.{refl, sym}
use Rattle.num_format_locale.proofs.SearchLemmas.{lower, upper, same_text}
use Rattle.num_format_locale.proofs.search.find_hyphened.Goals as goal
use Rattle.num_format_locale.proofs.search.find_hyphened.Goals.{in-Less, in-Greater}

pub returns-in-Equal-clause-found : goal.returns-in-Equal-clause-found
returns-in-Equal-clause-found c = same_text _ _ (sym c.in-Equal.ensures)

pub loop-low-preserved : goal.loop-low-preserved
loop-low-preserved c =
    elim c.match-compare.branch [
      | in-Less w ↦ rw w.low-is (rw w.high-is (lower _ _ _ _ _ c.loop-low.invariant c.loop-low-test.true (sym w.in-Less.ensures) refl))
      | in-Greater w ↦ rw w.low-is (rw w.high-is (upper _ _ _ _ _ c.loop-low.invariant c.loop-low-test.true (sym w.in-Greater.ensures) refl))
    ]
