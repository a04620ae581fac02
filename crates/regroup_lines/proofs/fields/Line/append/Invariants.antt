use Rattle.regroup_lines.proofs.Common.{drop, length, ◌+◌, ◌-◌, ◌≡◌, ◌≤◌}
use Rattle.regroup_lines.proofs.FieldLemmas.{Begun, IsNext}
use Rattle.regroup_lines.proofs.fields.Line.append.Given as goal

-- the bytes before those from `kept` on were appended, which are passed on before the fields that are left
abbrev pub invariant-fields : goal.invariant-fields
invariant-fields g l =
    let setup = l.self.setup.now in
    let fields = l.self.fields.now in
    let start = length l.line - length l.rest in
    (l.kept ≤ start) × (length l.rest ≤ length l.line) × (l.count ≤ start) × (l.rest ≡ drop start l.line)
    × IsNext fields (l.count + 1) l.changed
    × Begun setup.rules.now fields setup.parser setup.to.now l.self.number l.line l.fn.text l.kept start l.count l.text

abbrev pub decreases-fields : goal.decreases-fields
decreases-fields g l = length l.rest
