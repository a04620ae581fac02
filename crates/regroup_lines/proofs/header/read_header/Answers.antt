use Rattle.regroup_lines.proofs.Common.{ap, slice_range, ◌∙◌}
use Rattle.regroup_lines.proofs.HeaderLemmas.{header-line, header-long, header-rest}
use Rattle.regroup_lines.proofs.header.read_header.Goals as goal

pub returns-in-Line-clause-header : goal.returns-in-Line-clause-header
returns-in-Line-clause-header g c =
    let same = ap (λ l. slice_range l c.in-Line.place.start c.in-Line.place.end) c.into_parts.ensures.array in
    rw c.unmarked.ensures
    (header-line c.args.rules.now _ c.new-input.ensures.none _ c.first.ensures c.next_piece.new.self _ _ _ c.in_ok-piece.ensures.piece _
    c.in-Line.place c.in-Line.is same)

pub returns-in-Rest-clause-header : goal.returns-in-Rest-clause-header
returns-in-Rest-clause-header g c =
    let same = ap (λ l. slice_range l c.in-Rest.place.start c.in-Rest.place.end) c.into_parts.ensures.array in
    rw c.unmarked-in-Rest.ensures
    (header-rest c.args.rules.now _ c.new-input.ensures.none _ c.first.ensures c.next_piece.new.self _ _ _ c.in_ok-piece.ensures.piece _
    c.in-Rest.place c.in-Rest.is same)

pub returns-in-TooLong-clause-header : goal.returns-in-TooLong-clause-header
returns-in-TooLong-clause-header g c =
    let len = c.in_ok-piece.ensures.len ∙ c.new-input.ensures.len ∙ c.requires in
    rw c.unmarked-in-TooLong.ensures
    (header-long c.args.rules.now _ c.new-input.ensures.none _ c.first.ensures c.next_piece.new.self _ _ _ c.in_ok-piece.ensures.piece _
    c.in-TooLong.is c.into_parts.ensures.held len)
