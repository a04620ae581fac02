use Rattle.std.proofs.Common.{drop, map, ◌≡◌}
use Rattle.regroup_stream.specs.Names.{ranges_named}
use Rattle.regroup_stream.proofs.names.ranges_named.Given as goal

-- the fields of the names so far were found, and the others are left
abbrev pub invariant-loop-name : goal.invariant-loop-name
invariant-loop-name l =
    ranges_named l.fields l.header l.fields.list.now (map (λ name. name.now) l.names)
    ≡ ranges_named l.fields l.header l.list.items (map (λ name. name.now) (drop l.name-index l.names))
