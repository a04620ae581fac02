use Rattle.std.proofs.Common.{◌≡◌, drop}
use Rattle.num_format_affixes.specs.Affixes.{first_error}
use Rattle.num_format_affixes.proofs.affixes.Affixes.new.Given as goal

-- nothing is wrong with the texts so far
abbrev pub invariant-loop-index : goal.invariant-loop-index
invariant-loop-index l = first_error 0 l.texts ≡ first_error l.index (drop l.index l.texts)
