-- The ranges of a list, after others.
use Rattle.regroup_core.proofs.Common.{List, Result, result_map_both, ◌++◌}
use Rattle.regroup_core.specs.declared.list.ListError.{ListError}
use Rattle.regroup_core.specs.declared.plan.FieldRange.{FieldRange}

-- ranges after others, or the error in place of them
abbrev pub joined : List FieldRange → Result (List FieldRange) ListError → Result (List FieldRange) ListError
joined front ranges = result_map_both (λ rest. front ++ rest) (λ cause. cause) ranges
