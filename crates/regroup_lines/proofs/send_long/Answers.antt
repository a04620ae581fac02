use Rattle.regroup_lines.proofs.Common.{◌∙◌, ◌≤◌, Err, Ok, arith, subst, ◌-◌, ◌^◌, err_from_is_err_and, FindsPiece, IsInArray, held}
use Rattle.regroup_lines.proofs.Common.{line_fault_of, quotes_in}
use Rattle.regroup_lines.proofs.InputLemmas.{ended-at, found-line, found-rest}
use Rattle.regroup_lines.proofs.LongLemmas.{PassesLong-endless, PassesLong-first, PassesLong-halted, PassesLong-line, PassesLong-rest}
use Rattle.regroup_lines.proofs.LongLemmas.{PassesLong-unsent, SentLong-next}
use Rattle.regroup_lines.proofs.send_long.Goals as goal

pub returns-in_err-send_held-clause-passes : goal.returns-in_err-send_held-clause-passes
returns-in_err-send_held-clause-passes g c =
    let p = err_from_is_err_and c.from_residual.result c.from_residual.ensures.1 in
    rw (p.1, p.2) (PassesLong-first c.args.rules.now c.args.number.now c.send_held.new.number _ _ _ _ (held c.send_held.new.input)
    (line_fault_of c.in_err-send_held.field-0.0) c.requires.long c.in_err-send_held.ensures.sent)

pub returns-in_err-pass_bytes-in-Ok-Line-clause-passes : goal.returns-in_err-pass_bytes-in-Ok-Line-clause-passes
returns-in_err-pass_bytes-in-Ok-Line-clause-passes g c =
    let found = found-line (quotes_in c.args.rules.now.span) c.args.rules.now.line_end c.loop.within
    (held c.loop.input) c.next_piece.new.self (g.R.Read.remaining c.loop.r)
    (g.R.Read.remaining c.next_piece.new.reader) _ c.in-Ok-Line.ensures.piece c.in-Ok-Line.place _ c.line-line.ensures.text
    c.in-Ok-Line.field-0-is in
    let ended =
    ended-at c.args.rules.now.line_end c.next_piece.new.self c.in-Ok-Line.place _ _ c.line-line.ensures.text c.line-line.ensures.ended
    (subst (IsInArray c.args.rules.now.line_end c.next_piece.new.self) c.in-Ok-Line.field-0-is c.in-Ok-Line.ensures.place) in
    let p = err_from_is_err_and c.from_residual-in_err-pass_bytes-in-Ok-Line.result c.from_residual-in_err-pass_bytes-in-Ok-Line.ensures.1
    in
    rw (p.1, p.2) (PassesLong-line c.args.rules.now c.args.number.now c.loop.number _ _ _ _ _ _ _ _ _ _ _ _ _ _ c.loop.invariant.0
    c.in-Ok-Line.ensures.flushed _ (held c.next_piece.new.self) found.0 found.1
    (Err (line_fault_of c.in_err-pass_bytes-in-Ok-Line.field-0.0)) (rw ended at c.in_err-pass_bytes-in-Ok-Line.ensures)
    (λ done is. absurd (cc)))

pub returns-in-Ok-Line-clause-passes : goal.returns-in-Ok-Line-clause-passes
returns-in-Ok-Line-clause-passes g c =
    let found = found-line (quotes_in c.args.rules.now.span) c.args.rules.now.line_end c.loop.within
    (held c.loop.input) c.next_piece.new.self (g.R.Read.remaining c.loop.r)
    (g.R.Read.remaining c.next_piece.new.reader) _ c.in-Ok-Line.ensures.piece c.in-Ok-Line.place _ c.line-line.ensures.text
    c.in-Ok-Line.field-0-is in
    let ended =
    ended-at c.args.rules.now.line_end c.next_piece.new.self c.in-Ok-Line.place _ _ c.line-line.ensures.text c.line-line.ensures.ended
    (subst (IsInArray c.args.rules.now.line_end c.next_piece.new.self) c.in-Ok-Line.field-0-is c.in-Ok-Line.ensures.place) in
    PassesLong-line c.args.rules.now c.args.number.now c.line_after.result _ _ _ _ _ _ _ _ _ _ _ _ _ _ c.loop.invariant.0
    c.in-Ok-Line.ensures.flushed _ (held c.next_piece.new.self) found.0 found.1 (Ok tt)
    (rw ended at c.in_ok-pass_bytes-in-Ok-Line.ensures) (λ done is. c.line_after.ensures)

pub returns-in_err-pass_bytes-in-Ok-Rest-clause-passes : goal.returns-in_err-pass_bytes-in-Ok-Rest-clause-passes
returns-in_err-pass_bytes-in-Ok-Rest-clause-passes g c =
    let found = found-rest (quotes_in c.args.rules.now.span) c.args.rules.now.line_end c.loop.within
    (held c.loop.input) c.next_piece.new.self (g.R.Read.remaining c.loop.r)
    (g.R.Read.remaining c.next_piece.new.reader) _ c.in-Ok-Rest.ensures.piece c.in-Ok-Rest.place _ c.line-line-in-Ok-Rest.ensures.text
    c.in-Ok-Rest.field-0-is in
    let p = err_from_is_err_and c.from_residual-in_err-pass_bytes-in-Ok-Rest.result c.from_residual-in_err-pass_bytes-in-Ok-Rest.ensures.1
    in
    rw (p.1, p.2) (PassesLong-rest c.args.rules.now c.args.number.now c.loop.number _ _ _ _ _ _ _ _ _ _ _ _ _ _ c.loop.invariant.0
    c.in-Ok-Rest.ensures.flushed _ found.0 found.1 (held c.next_piece.new.self) found.3
    (Err (line_fault_of c.in_err-pass_bytes-in-Ok-Rest.field-0.0)) (rw c.ended_once.ensures at c.in_err-pass_bytes-in-Ok-Rest.ensures))

pub returns-in-Ok-Rest-clause-passes : goal.returns-in-Ok-Rest-clause-passes
returns-in-Ok-Rest-clause-passes g c =
    let found = found-rest (quotes_in c.args.rules.now.span) c.args.rules.now.line_end c.loop.within
    (held c.loop.input) c.next_piece.new.self (g.R.Read.remaining c.loop.r)
    (g.R.Read.remaining c.next_piece.new.reader) _ c.in-Ok-Rest.ensures.piece c.in-Ok-Rest.place _ c.line-line-in-Ok-Rest.ensures.text
    c.in-Ok-Rest.field-0-is in
    PassesLong-rest c.args.rules.now c.args.number.now c.loop.number _ _ _ _ _ _ _ _ _ _ _ _ _ _ c.loop.invariant.0
    c.in-Ok-Rest.ensures.flushed _ found.0 found.1 (held c.next_piece.new.self) found.3 (Ok tt)
    (rw c.ended_once.ensures at c.in_ok-pass_bytes-in-Ok-Rest.ensures)

pub returns-in_err-send_held-in-Ok-TooLong-clause-passes : goal.returns-in_err-send_held-in-Ok-TooLong-clause-passes
returns-in_err-send_held-in-Ok-TooLong-clause-passes g c =
    let found =
    subst (FindsPiece (quotes_in c.args.rules.now.span) c.args.rules.now.line_end c.loop.within
    (held c.loop.input) c.next_piece.new.self (g.R.Read.remaining c.loop.r) (g.R.Read.remaining c.next_piece.new.reader))
    c.in-Ok-TooLong.field-0-is c.in-Ok-TooLong.ensures.piece in
    let p = err_from_is_err_and c.from_residual-in_err-send_held-in-Ok-TooLong.result
    c.from_residual-in_err-send_held-in-Ok-TooLong.ensures.1 in
    rw (p.1, p.2) (PassesLong-unsent c.args.rules.now c.args.number.now c.send_held-in-Ok-TooLong.new.number _ _ _ _ _ _ _ _ _ _ _ _ _ _
    c.loop.invariant.0 c.in-Ok-TooLong.ensures.flushed _ found.0 found.1 _
    (line_fault_of c.in_err-send_held-in-Ok-TooLong.field-0.0) c.in_err-send_held-in-Ok-TooLong.ensures.sent)

pub loop-preserved : goal.loop-preserved
loop-preserved g c =
    let found =
    subst (FindsPiece (quotes_in c.args.rules.now.span) c.args.rules.now.line_end c.loop.within
    (held c.loop.input) c.next_piece.new.self (g.R.Read.remaining c.loop.r) (g.R.Read.remaining c.next_piece.new.reader))
    c.in-Ok-TooLong.field-0-is c.in-Ok-TooLong.ensures.piece in
    let long = found.2 in
    let sent = c.in_ok-send_held-in-Ok-TooLong.ensures in (
      SentLong-next c.args.rules.now c.args.number.now _ _ _ _ _ _ _ _ _ _ _ _ _ _ _ c.loop.invariant.0 c.in-Ok-TooLong.ensures.flushed _
          found.0 found.1 _ _ _ (omega (arith, long, c.requires.len, c.in-Ok-TooLong.ensures.len, c.loop.invariant.1)) sent.sent
          sent.none_left sent.within sent.number sent.ended,
      sent.len ∙ c.in-Ok-TooLong.ensures.len ∙ c.loop.invariant.1,
    )

pub returns-in_err-send_held-in-Err-clause-passes : goal.returns-in_err-send_held-in-Err-clause-passes
returns-in_err-send_held-in-Err-clause-passes g c =
    let read = c.in-Err.ensures.failed in
    let p = err_from_is_err_and c.from_residual-in_err-send_held-in-Err.result c.from_residual-in_err-send_held-in-Err.ensures.1 in
    rw (p.1, p.2) (PassesLong-unsent c.args.rules.now c.args.number.now c.send_held-in-Err.new.number _ _ _ _ _ _ _ _ _ _ _ _ _ _
    c.loop.invariant.0 c.in-Err.ensures.flushed _ read.0 read.1 _ (line_fault_of c.in_err-send_held-in-Err.field-0.0)
    c.in_err-send_held-in-Err.ensures.sent)

pub returns-in-Err-clause-passes : goal.returns-in-Err-clause-passes
returns-in-Err-clause-passes g c =
    let read = c.in-Err.ensures.failed in
    rw c.into.ensures (PassesLong-halted c.args.rules.now c.args.number.now c.send_held-in-Err.new.number _ _ _ _ _ _ _ _ _ _ _ _ _ _
    c.loop.invariant.0 c.in-Err.ensures.flushed _ read.0 read.1 _ _ c.in-Err.ensures.halt c.in_ok-send_held-in-Err.ensures.sent)

pub returns-clause-passes : goal.returns-clause-passes
returns-clause-passes g c =
    let all : 2 ^ 64 - 1 ≤ c.loop.counter = omega arith in
    PassesLong-endless c.args.rules.now c.args.number.now c.loop.number _ _ _ _ _ _ _ _ _ _ _ c.loop.invariant.0 all
