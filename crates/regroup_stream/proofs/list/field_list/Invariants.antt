use Rattle.std.proofs.Common.{drop, length, map, ◌++◌, ◌≡◌}
use Rattle.std.specs.List.{filter}
use Rattle.std.specs.Option.{option_map}
use Rattle.regroup_stream.specs.Lists.{is_name, parts_of, ranges_in}
use Rattle.regroup_stream.proofs.list.field_list.Given as goal

-- the ranges and the names of the parts so far, and those of the parts that are left
abbrev pub invariant-loop-part : goal.invariant-loop-part
invariant-loop-part l =
    (goal.iterator-loop-part).can_next l.part-iterator × (goal.iterator-loop-part).is_finite l.part-iterator
    × (ranges_in (parts_of l.text) ≡ option_map (λ later. l.ranges.items ++ later) (ranges_in (drop (length l.yielded) (parts_of l.text))))
    × (filter is_name (parts_of l.text)
    ≡ map (λ name. name.now) l.names.items ++ filter is_name (drop (length l.yielded) (parts_of l.text)))
