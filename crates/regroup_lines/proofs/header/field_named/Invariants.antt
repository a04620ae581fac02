use Rattle.regroup_lines.proofs.Common.{fields_of, length, ◌+◌, ◌≡◌, ◌≤◌}
use Rattle.regroup_lines.proofs.HeaderLemmas.{also}
use Rattle.regroup_lines.specs.Header.{named_after, number_named}
use Rattle.regroup_lines.proofs.header.field_named.Given as goal

-- the one field that has the name is that of the field that was found so far, and of those that are left
abbrev pub invariant-fields : goal.invariant-fields
invariant-fields l =
    (l.count + length l.rest ≤ length l.header)
    × (number_named l.fields l.header l.name ≡ also l.name l.found (named_after l.fields l.name l.count (fields_of l.fields l.rest)))

abbrev pub decreases-fields : goal.decreases-fields
decreases-fields l = length l.rest
