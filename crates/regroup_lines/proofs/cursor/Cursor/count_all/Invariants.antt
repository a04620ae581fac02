use Rattle.regroup_lines.proofs.Common.{length, ◌≡◌}
use Rattle.regroup_lines.specs.Cursor.{left}
use Rattle.regroup_lines.specs.Places.{count_after}
use Rattle.regroup_lines.proofs.cursor.Cursor.count_all.Given as goal

-- as many are counted in all
abbrev pub invariant-fields : goal.invariant-fields
invariant-fields l = count_after l.fields.blanks l.self.count (left l.fields l.self)
    ≡ count_after l.fields.blanks l.cursor.count (left l.fields l.cursor)

abbrev pub decreases-fields : goal.decreases-fields
decreases-fields l = length (left l.fields l.cursor)
