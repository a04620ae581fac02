use Rattle.regroup_core.proofs.Common.{drop, ◌≡◌}
use Rattle.regroup_core.specs.Places.{doubled}
use Rattle.std.specs.Str.{bytes_eq}
use Rattle.regroup_core.proofs.header.is_doubled.Given as goal

-- what is left of the text is compared with what is left of the name
abbrev pub invariant-loop-byte : goal.invariant-loop-byte
invariant-loop-byte l = bytes_eq l.text (doubled l.name) ≡ bytes_eq l.rest (doubled (drop l.byte-index l.name))
