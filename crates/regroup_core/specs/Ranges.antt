-- The ranges of a list of fields, of which some are named.
use Rattle.std.specs.Prelude.{◌≡◌, ℕ, ◌+◌, List, [], ◌∷◌, Some, Result, Ok, Err, ⊤}
use Rattle.std.specs.Result.{result_map_both}
use Rattle.regroup_core.specs.Header.{number_named}
use Rattle.regroup_core.specs.declared.dialect.Separation.{Separation}
use Rattle.regroup_core.specs.declared.header.NameError.{NameError}
use Rattle.regroup_core.specs.declared.list.ListError.{ListError}
use Rattle.regroup_core.specs.declared.list.ListError.TheVariants as fault
use Rattle.regroup_core.specs.declared.list.Selector.{Selector}
use Rattle.regroup_core.specs.declared.list.Selector.TheVariants.{Name, Range}
use Rattle.regroup_core.specs.declared.plan.FieldRange.{FieldRange}

-- one field
abbrev pub one_field : ℕ → FieldRange
one_field number = record { first = number; last = Some number }

-- the range of a part of a list
abbrev pub range_of : Separation → (header : List ℕ) → Selector → Result FieldRange NameError
range_of separation header (Range range) = Ok range
range_of separation header (Name name) = result_map_both one_field (λ cause. cause) (number_named separation header name.now)

-- a range before others, or the first error
abbrev pub with_range : (place : ℕ) → Result FieldRange NameError → Result (List FieldRange) ListError → Result (List FieldRange) ListError
with_range place (Ok range) ranges = result_map_both (λ rest. range ∷ rest) (λ cause. cause) ranges
with_range place (Err cause) ranges = Err (fault.Name place cause)

-- the ranges of the parts of a list, of which the first is at this place
abbrev pub ranges_of : Separation → (header : List ℕ) → (place : ℕ) → List Selector → Result (List FieldRange) ListError
ranges_of separation header place [] = Ok []
ranges_of separation header place (selector ∷ list) =
    with_range place (range_of separation header selector) (ranges_of separation header (place + 1) list)

-- an error that is returned in place of ranges is theirs, or that there is no memory for them
abbrev pub IsListError : Result (List FieldRange) ListError → ListError → Type 0
IsListError ranges fault.Memory = ⊤
IsListError ranges (fault.Name place cause) = ranges ≡ Err (fault.Name place cause)
