use Rattle.regroup_lines.proofs.Common.{length}
use Rattle.regroup_lines.proofs.ChosenLemmas.{Begun}
use Rattle.regroup_lines.specs.Cursor.{left}
use Rattle.regroup_lines.proofs.fields.Line.append_range.Given as goal

-- the fields of the range before those that are left were appended
abbrev pub invariant-fields : goal.invariant-fields
invariant-fields g l =
    let line = l.self in
    let setup = line.setup.now in
    Begun setup.rules.now line.fields.now setup.parser setup.to.now line.number l.range l.fn.cursor l.was_begun l.fn.text l.is_begun
    l.cursor l.text

abbrev pub decreases-fields : goal.decreases-fields
decreases-fields g l = length (left l.self.fields.now l.cursor)
