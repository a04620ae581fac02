use Rattle.regroup_lines.proofs.Common.{◌+◌, ◌≤◌, ◌<◌, length, ap, ◌∙◌, arith, slice_range, sym, subst, length-take, Keeps-trans}
use Rattle.regroup_lines.proofs.Common.{OnErr-always, HasNoEnd, Reads, array_len, ended_by, held, quotes_in}
use Rattle.regroup_lines.proofs.InputLemmas.{Reads-trans, Searched-read, held_all, held_len, held_more, held_none, held_room, record_ended}
use Rattle.regroup_lines.proofs.InputLemmas.{record_found, rest_found}
use Rattle.regroup_lines.proofs.input.Input.next_piece.Goals as goal

pub returns-then-len-rest-clause-piece : goal.returns-then-len-rest-clause-piece
returns-then-len-rest-clause-piece g c =
    let taken = c.take_ended.ensures in
    let low = held_more c.reads.self c.quotes-quotes.ensures c.reads.invariant.1
    (ap (λ l. slice_range l c.reads.searched (length l)) c.held.ensures.value) c.find_end-len.ensures.searched
    c.find_end-len.ensures.found c.if-len-rest.true in
    let line = record_found c.reads.self c.quotes-quotes.ensures c.reads.invariant.1
    (ap (λ l. slice_range l c.reads.searched (length l)) c.held.ensures.value) c.find_end-len.ensures.searched
    c.find_end-len.ensures.found c.reads.invariant.0 low _ _ taken.taken taken.left in (
      line.0,
      line.1,
      omega (
        arith,
        low,
        ap length taken.taken,
        length-take (c.reads.searched + c.find_end-len.result.0) (held c.reads.self),
        held_len c.reads.self,
        taken.len,
      ),
    )

pub returns-then-len-rest-clause-place : goal.returns-then-len-rest-clause-place
returns-then-len-rest-clause-place g c =
    let taken = c.take_ended.ensures in
    let ended = record_ended c.reads.self c.quotes-quotes.ensures c.reads.invariant.1
    (ap (λ l. slice_range l c.reads.searched (length l)) c.held.ensures.value) c.find_end-len.ensures.searched
    c.find_end-len.ensures.found c.if-len-rest.true in
    (taken.ordered, taken.within, taken.ended ∙ ended ∙ ap (ended_by c.args.rules.now.line_end) (sym taken.taken))

pub returns-then-searched-self-clause-piece : goal.returns-then-searched-self-clause-piece
returns-then-searched-self-clause-piece g c =
    let all = held_all c.reads.self c.quotes-quotes.ensures c.reads.invariant.1
    (ap (λ l. slice_range l c.reads.searched (length l)) c.held.ensures.value) c.find_end-len.ensures.searched
    c.find_end-len.ensures.found c.if-len-rest.false in (
      c.reads.invariant.0,
      held_none c.reads.self c.quotes-quotes.ensures c.reads.invariant.1
          (ap (λ l. slice_range l c.reads.searched (length l)) c.held.ensures.value) c.find_end-len.ensures.searched
          c.find_end-len.ensures.found c.if-len-rest.false,
      omega (arith, all, c.if-searched-self.true),
    )

pub returns-in_err-count-clause-failed : goal.returns-in_err-count-clause-failed
returns-in_err-count-clause-failed g c =
    let same = c.in_err-count.ensures.failed.0 in
    let none = held_none c.reads.self c.quotes-quotes.ensures c.reads.invariant.1
    (ap (λ l. slice_range l c.reads.searched (length l)) c.held.ensures.value) c.find_end-len.ensures.searched
    c.find_end-len.ensures.found c.if-len-rest.false in
    let room = held_room c.reads.self c.quotes-quotes.ensures c.reads.invariant.1
    (ap (λ l. slice_range l c.reads.searched (length l)) c.held.ensures.value) c.find_end-len.ensures.searched
    c.find_end-len.ensures.found c.if-len-rest.false c.if-searched-self.false in
    let failed : Reads (held c.args.self.now) (held c.read_more.new.self) (g.R.Read.remaining c.args.reader.now)
    (g.R.Read.remaining c.read_more.new.reader)
    × HasNoEnd (quotes_in c.args.rules.now.span) c.args.rules.now.line_end c.args.within (held c.read_more.new.self)
    × (length (held c.read_more.new.self) < array_len c.read_more.new.self) = (
      Reads-trans _ _ _ _ _ _ c.reads.invariant.0 c.in_err-count.ensures.read,
      subst (HasNoEnd (quotes_in c.args.rules.now.span) c.args.rules.now.line_end c.args.within) (sym same) none,
      omega (arith, room, ap length same, c.in_err-count.ensures.len),
    ) in
    OnErr-always _ _ failed

pub returns-then-count-eq0-clause-piece : goal.returns-then-count-eq0-clause-piece
returns-then-count-eq0-clause-piece g c =
    let read = c.in_ok-count.ensures in
    let room = held_room c.reads.self c.quotes-quotes.ensures c.reads.invariant.1
    (ap (λ l. slice_range l c.reads.searched (length l)) c.held.ensures.value) c.find_end-len.ensures.searched
    c.find_end-len.ensures.found c.if-len-rest.false c.if-searched-self.false in
    let nothing : length (held c.read_more.new.self) ≤ length (held c.reads.self) = omega (arith, read.count, c.if-count-eq0.true) in
    let rest = rest_found c.reads.self c.quotes-quotes.ensures c.reads.invariant.1
    (ap (λ l. slice_range l c.reads.searched (length l)) c.held.ensures.value) c.find_end-len.ensures.searched
    c.find_end-len.ensures.found c.if-len-rest.false read.read c.reads.invariant.0 nothing _ c.take_rest.ensures.taken in
    (rest.0, rest.1, omega (arith, room, ap length rest.2, c.take_rest.ensures.len, read.len), read.end c.if-count-eq0.true)

pub reads-preserved : goal.reads-preserved
reads-preserved g c =
    let read = c.in_ok-count.ensures in (
      Reads-trans _ _ _ _ _ _ c.reads.invariant.0 read.read,
      Searched-read c.reads.self c.quotes-quotes.ensures c.reads.invariant.1
          (ap (λ l. slice_range l c.reads.searched (length l)) c.held.ensures.value) c.find_end-len.ensures.searched
          c.find_end-len.ensures.found c.if-len-rest.false read.read,
      read.len ∙ c.reads.invariant.2,
      Keeps-trans _ _ _ c.reads.invariant.3 read.flushed,
    )
