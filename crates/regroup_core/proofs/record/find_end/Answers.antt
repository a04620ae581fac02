use Rattle.regroup_core.proofs.Common.{arith, rules, ap, sym, length, get_or, false, is_end, is_inside, ne_eqb, not, ◌<◌, ◌+◌, ◌&&◌, ◌≡◌}
use Rattle.regroup_core.proofs.Common.{◌∙◌}
use Rattle.regroup_core.proofs.RecordLemmas.{Searched-byte, Searched-search, Searched-unquoted, and_false}
use Rattle.regroup_core.proofs.record.find_end.Goals as goal
use Rattle.regroup_core.proofs.record.find_end.Goals.{else-text-searched, then-text-searched}

pub returns-then-searched-text-clause-searched : goal.returns-then-searched-text-clause-searched
returns-then-searched-text-clause-searched c =
    Searched-search c.stops.invariant c.memchr2.result c.memchr2.ensures c.unwrap_or-len.ensures c.after_plain-here.ensures

pub stops-preserved : goal.stops-preserved
stops-preserved c =
    let here = Searched-search c.stops.invariant c.memchr2.result c.memchr2.ensures c.unwrap_or-len.ensures c.after_plain-here.ensures in
    let low : c.stops.searched + c.unwrap_or-len.result < length c.args.text.now = omega arith in
    let plain : is_end c.args.end c.after_plain-here.result (get_or c.args.text.now (c.stops.searched + c.unwrap_or-len.result) 0) ≡ false =
    elim c.if-text-searched.branch [
      | then-text-searched w ↦ and_false _ _ (ap not (sym w.is_inside-then-text-searched.ensures) ∙ sym w.value-is
          ∙ c.if-not-is_inside-2.false)
      | else-text-searched w ↦ ap (λ same. same && not (is_inside c.after_plain-here.result)) (ne_eqb _ _ w.if-text-searched.false)
    ] in
    rw c.after_byte-here.ensures (Searched-byte here low plain)

pub returns-then-not-is_inside-clause-searched : goal.returns-then-not-is_inside-clause-searched
returns-then-not-is_inside-clause-searched c = Searched-unquoted _ _ _ _ _ _ (search rules) c.memchr.ensures c.unwrap_or.ensures
