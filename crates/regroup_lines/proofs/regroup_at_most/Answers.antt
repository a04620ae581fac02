use Rattle.regroup_lines.proofs.Common.{rules, true, ◌∙◌, ◌<◌, ◌≤◌, ◌≡◌, length, sym, arith, err_from_is_err_and, fault_of, line_fault_of}
use Rattle.regroup_lines.proofs.Common.{held, passes}
use Rattle.regroup_lines.proofs.ProgressLemmas.{Progress-long, Progress-next, Progress-none, Regroups-all, Regroups-empty, Regroups-halted}
use Rattle.regroup_lines.proofs.ProgressLemmas.{Regroups-last, Regroups-last_fault, Regroups-line, Regroups-long, Regroups-long_ended}
use Rattle.regroup_lines.proofs.ProgressLemmas.{Regroups-long_failed, Regroups-long_unnamed, Regroups-many, Regroups-unread}
use Rattle.regroup_lines.proofs.regroup_at_most.Goals as goal
use Rattle.regroup_lines.proofs.regroup_at_most.Goals.{in-Line+in_ok-has_faults-in-Line}
use Rattle.regroup_lines.proofs.regroup_at_most.Goals.{in-TooLong+else-not-passes+in_ok-has_faults-in-TooLong+in_ok-send_long-in-TooLong+else-branch}

pub loop-lines-init : goal.loop-lines-init
loop-lines-init g c = (Progress-none c.args.rules.now _ _ _ _ _ _ _ c.new-input.ensures.none, c.new-input.ensures.len ∙ c.requires)

pub returns-in_err-place : goal.returns-in_err-place
returns-in_err-place g c =
    let failed = c.in_err-place.ensures.failed in
    let below = failed.2 in
    let len = c.loop-lines.invariant.1 in
    let short : length (held c.next_piece.new.self) ≤ c.args.rules.now.max_line_len = omega (arith, below, len) in
    let p = err_from_is_err_and c.from_residual.result c.from_residual.ensures.1 in
    rw (p.1, p.2, ← c.new.ensures) (Regroups-halted c.args.rules.now _ _ _ _ _ _ _ _ _
    (omega arith) _ _ _ _ _ _ _ c.loop-lines.invariant.0 c.in_err-place.ensures.flushed _ failed.0
    (rw c.first.ensures at failed.1) short _ c.in_err-place.ensures.halt)

pub returns-in_err-has_faults-in-Line : goal.returns-in_err-has_faults-in-Line
returns-in_err-has_faults-in-Line g c =
    let p = err_from_is_err_and c.from_residual-in_err-has_faults-in-Line.result c.from_residual-in_err-has_faults-in-Line.ensures.1 in
    rw (p.1, p.2, ← c.new.ensures) (Regroups-line c.args.rules.now _ _ _ _ _ _ _ _ _
    (omega arith) _ _ _ _ _ _ _ c.loop-lines.invariant.0 c.in_ok-place.ensures.flushed c.next_piece.new.self _
    (rw c.first.ensures at c.in_ok-place.ensures.piece) _ c.in-Line.is (c.in_ok-place.ensures.len ∙ c.loop-lines.invariant.1)
    c.line-line.result.text.now c.line-line.ensures.text (line_fault_of c.in_err-has_faults-in-Line.field-0.0) _
    (rw c.line-line.ensures.number at c.in_err-has_faults-in-Line.ensures))

pub returns-then-is_empty : goal.returns-then-is_empty
returns-then-is_empty g c =
    rw (← c.new.ensures) (Regroups-empty c.args.rules.now _ _ _ _ _ _ _ _ _
    (omega arith) _ _ _ _ _ _ _ c.loop-lines.invariant.0 c.in_ok-place.ensures.flushed c.next_piece.new.self _
    (rw c.first.ensures at c.in_ok-place.ensures.piece) _ c.in-Rest.is (c.in_ok-place.ensures.len ∙ c.loop-lines.invariant.1)
    c.line-line-in-Rest.result.text.now c.line-line-in-Rest.ensures.text (sym c.is_empty.ensures ∙ c.if-is_empty.true))

pub returns-in_err-has_faults-in-Rest : goal.returns-in_err-has_faults-in-Rest
returns-in_err-has_faults-in-Rest g c =
    let p = err_from_is_err_and c.from_residual-in_err-has_faults-in-Rest.result c.from_residual-in_err-has_faults-in-Rest.ensures.1 in
    rw (p.1, p.2, ← c.new.ensures) (Regroups-last_fault c.args.rules.now _ _ _ _ _ _ _ _ _
    (omega arith) _ _ _ _ _ _ _ c.loop-lines.invariant.0 c.in_ok-place.ensures.flushed c.next_piece.new.self _
    (rw c.first.ensures at c.in_ok-place.ensures.piece) _ c.in-Rest.is (c.in_ok-place.ensures.len ∙ c.loop-lines.invariant.1)
    c.line-line-in-Rest.result.text.now c.line-line-in-Rest.ensures.text (sym c.is_empty.ensures ∙ c.if-is_empty.false) _
    (line_fault_of c.in_err-has_faults-in-Rest.field-0.0) (rw c.line-line-in-Rest.ensures.number at
    c.in_err-has_faults-in-Rest.ensures))

pub returns-in-Rest : goal.returns-in-Rest
returns-in-Rest g c =
    rw (← c.new.ensures) (Regroups-last c.args.rules.now _ _ _ _ _ _ _ _ _
    (omega arith) _ _ _ _ _ _ _ c.loop-lines.invariant.0 c.in_ok-place.ensures.flushed c.next_piece.new.self _
    (rw c.first.ensures at c.in_ok-place.ensures.piece) _ c.in-Rest.is (c.in_ok-place.ensures.len ∙ c.loop-lines.invariant.1)
    c.line-line-in-Rest.result.text.now c.line-line-in-Rest.ensures.text (sym c.is_empty.ensures
    ∙ c.if-is_empty.false) _ c.in_ok-has_faults-in-Rest.field-0 (rw c.line-line-in-Rest.ensures.number at
    c.in_ok-has_faults-in-Rest.ensures))

pub returns-then-not-passes : goal.returns-then-not-passes
returns-then-not-passes g c =
    rw (c.long_fault-fault.ensures, ← c.new.ensures)
    (Regroups-long c.args.rules.now _ _ _ _ _ _ _ _ _ (omega arith) _ _ _ _ _ _ _ c.loop-lines.invariant.0 c.in_ok-place.ensures.flushed
    c.next_piece.new.self _ (rw c.first.ensures at c.in_ok-place.ensures.piece) c.in-TooLong.is (c.in_ok-place.ensures.len
    ∙ c.loop-lines.invariant.1) (search rules))

pub returns-in_err-has_faults-in-TooLong : goal.returns-in_err-has_faults-in-TooLong
returns-in_err-has_faults-in-TooLong g c =
    let p = err_from_is_err_and c.from_residual-in_err-has_faults-in-TooLong.result c.from_residual-in_err-has_faults-in-TooLong.ensures.1
    in
    rw (p.1, p.2, ← c.new.ensures) (Regroups-long_unnamed c.args.rules.now _ _ _ _ _ _ _ _ _
    (omega arith) _ _ _ _ _ _ _ c.loop-lines.invariant.0 c.in_ok-place.ensures.flushed c.next_piece.new.self _
    (rw c.first.ensures at c.in_ok-place.ensures.piece) c.in-TooLong.is (c.in_ok-place.ensures.len ∙ c.loop-lines.invariant.1)
    (search rules)
    _ c.long_fault-fault.ensures _ (line_fault_of c.in_err-has_faults-in-TooLong.field-0.0) c.in_err-has_faults-in-TooLong.ensures)

pub returns-in_err-send_long-in-TooLong : goal.returns-in_err-send_long-in-TooLong
returns-in_err-send_long-in-TooLong g c =
    let p = err_from_is_err_and c.from_residual-in_err-send_long-in-TooLong.result c.from_residual-in_err-send_long-in-TooLong.ensures.1 in
    rw (p.1, p.2, ← c.new.ensures) (Regroups-long_failed c.args.rules.now _ _ _ _ _ _ _ _ _
    (omega arith) _ _ _ _ _ _ _ c.loop-lines.invariant.0 c.in_ok-place.ensures.flushed c.next_piece.new.self _
    (rw c.first.ensures at c.in_ok-place.ensures.piece) c.in-TooLong.is (c.in_ok-place.ensures.len ∙ c.loop-lines.invariant.1)
    (search rules)
    _ c.long_fault-fault.ensures _ c.in_ok-has_faults-in-TooLong.field-0 c.in_ok-has_faults-in-TooLong.ensures _ _ c.send_long.new.number
    (held c.send_long.new.input) (fault_of c.in_err-send_long-in-TooLong.field-0.0)
    c.in_err-send_long-in-TooLong.ensures.passes)

pub returns-then-branch : goal.returns-then-branch
returns-then-branch g c =
    rw (← c.new.ensures) (Regroups-long_ended c.args.rules.now _ _ _ _ _ _ _ _ _
    (omega arith) _ _ _ _ _ _ _ c.loop-lines.invariant.0 c.in_ok-place.ensures.flushed c.next_piece.new.self _
    (rw c.first.ensures at c.in_ok-place.ensures.piece) c.in-TooLong.is (c.in_ok-place.ensures.len ∙ c.loop-lines.invariant.1)
    (search rules)
    _ c.long_fault-fault.ensures _ c.in_ok-has_faults-in-TooLong.field-0 c.in_ok-has_faults-in-TooLong.ensures _ _ c.send_long.new.number
    (held c.send_long.new.input) c.in_ok-send_long-in-TooLong.field-0 (search rules) c.in_ok-send_long-in-TooLong.ensures.passes)

pub loop-lines-preserved : goal.loop-lines-preserved
loop-lines-preserved g c =
    let few : c.loop-lines.lines < c.args.most = omega arith in
    elim c.match-branch-2.branch [
      | in-Line+in_ok-has_faults-in-Line w ↦
          rw (w.r-is, w.w-is, w.e-is, w.x-is, w.input-is, w.has_faults-is, w.number-is, w.line_after-number.ensures) (
            Progress-next c.args.rules.now _ _ _ _ _ _ _ _ _ few _ _ _ _ _ _ _ c.loop-lines.invariant.0 c.in_ok-place.ensures.flushed
                c.next_piece.new.self _ (rw c.first.ensures at c.in_ok-place.ensures.piece) _ w.in-Line.is (c.in_ok-place.ensures.len
                ∙ c.loop-lines.invariant.1)
                w.line-line.result.text.now w.line-line.ensures.text w.in_ok-has_faults-in-Line.field-0 _
                (rw w.line-line.ensures.number at w.in_ok-has_faults-in-Line.ensures),
            c.in_ok-place.ensures.len ∙ c.loop-lines.invariant.1,
          )
      | in-TooLong+else-not-passes+in_ok-has_faults-in-TooLong+in_ok-send_long-in-TooLong+else-branch w ↦
          let len = c.in_ok-place.ensures.len ∙ c.loop-lines.invariant.1 in
          let does : passes c.args.rules.now.invalid ≡ true = sym w.passes.ensures ∙ w.if-not-passes.false in
          rw (w.r-is, w.w-is, w.e-is, w.x-is, w.input-is, w.has_faults-is, w.number-is) (
            Progress-long c.args.rules.now _ _ _ _ _ _ _ _ _ few _ _ _ _ _ _ _ c.loop-lines.invariant.0 c.in_ok-place.ensures.flushed
                c.next_piece.new.self _ (rw c.first.ensures at c.in_ok-place.ensures.piece) w.in-TooLong.is len does
                _ w.long_fault-fault.ensures _ w.in_ok-has_faults-in-TooLong.field-0 w.in_ok-has_faults-in-TooLong.ensures _ _
                w.send_long.new.number (held w.send_long.new.input) w.in_ok-send_long-in-TooLong.field-0 w.if-branch.false
                w.in_ok-send_long-in-TooLong.ensures.passes,
            w.in_ok-send_long-in-TooLong.ensures.len ∙ len,
          )
    ]

pub returns : goal.returns
returns g c =
    rw (← c.new.ensures) (Regroups-all c.args.rules.now _ _ _ _ _ _ _ _ _
    (omega arith) _ _ _ _ _ _ _ c.loop-lines.invariant.0 c.in_ok-is_at_end.ensures.flushed _ c.in_ok-is_at_end.ensures.end
    (search rules))

pub returns-then-not-branch : goal.returns-then-not-branch
returns-then-not-branch g c =
    rw (← c.new.ensures) (Regroups-many c.args.rules.now _ _ _ _ _ _ _ _ _
    (omega arith) _ _ _ _ _ _ _ c.loop-lines.invariant.0 c.in_ok-is_at_end.ensures.flushed _ c.in_ok-is_at_end.ensures.end
    (search rules))

pub returns-in_err-is_at_end : goal.returns-in_err-is_at_end
returns-in_err-is_at_end g c =
    let failed = c.in_err-is_at_end.ensures.failed in
    let p = err_from_is_err_and c.from_residual-in_err-is_at_end.result c.from_residual-in_err-is_at_end.ensures.1 in
    rw (p.1, p.2, ← c.new.ensures) (Regroups-unread c.args.rules.now _ _ _ _ _ _ _ _ _
    (omega arith) _ _ _ _ _ _ _ c.loop-lines.invariant.0 c.in_err-is_at_end.ensures.flushed failed.0 failed.1 _
    c.in_err-is_at_end.ensures.halt)
