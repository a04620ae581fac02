use Rattle.regroup_core.proofs.Common.{arith, ap, length, or_from, sym, ◌+◌, ◌<◌, ◌∙◌}
use Rattle.regroup_core.proofs.RecordLemmas.{end-searched, ends-bare, ends-one, end-here, end-none}
use Rattle.regroup_core.proofs.record.record_end.Goals as goal
use Rattle.regroup_core.proofs.record.record_end.Goals.{else-is_some, then-is_some}

pub returns-then-len-bytes-clause-end : goal.returns-then-len-bytes-clause-end
returns-then-len-bytes-clause-end c =
    rw (← c.quotes-quotes.ensures) (sym (end-searched c.find_end-len.ensures.searched c.find_end-len.ensures.found
    ∙ end-none c.find_end-len.result.0 c.args.bytes.now (omega arith)))

pub returns-clause-end : goal.returns-clause-end
returns-clause-end c =
    let inside = c.find_end-len.ensures.searched.inside in
    rw (← c.quotes-quotes.ensures) (sym (end-searched c.find_end-len.ensures.searched c.find_end-len.ensures.found
    ∙ end-here c.find_end-len.result.0 c.args.bytes.now (omega arith)))

pub ends_inside-line_ends-requires : goal.ends_inside-line_ends-requires
ends_inside-line_ends-requires c =
    λ bare. elim c.if-is_some.branch [
      | then-is_some w ↦ absurd (cc)
      | else-is_some w ↦
          ends-bare c.quotes-quotes.result c.args.dialect.line_end c.args.within.now c.find_end-len.result.1
          c.args.bytes.now c.find_end-len.result.0
          (or_from _ _ (sym c.is_some.ensures ∙ w.if-is_some.false) (sym w.is_inside-may_have_ends.ensures ∙ sym w.may_have_ends-is ∙ bare))
          c.find_end-len.ensures.searched
    ]

pub returns-clause-line_ends : goal.returns-clause-line_ends
returns-clause-line_ends c =
    let inside = c.find_end-len.ensures.searched.inside in
    let low : c.find_end-len.result.0 < length c.args.bytes.now = omega arith in
    ap (λ n. n + 1) c.ends_inside-line_ends.ensures.value
    ∙ ends-one c.args.dialect.line_end c.args.bytes.now c.find_end-len.result.0 low (c.find_end-len.ensures.found low).0
