use Rattle.std.proofs.Common.{◌≡◌, map, All}
use Rattle.std.specs.Prelude.{fold, IsSome}
use Rattle.num_format.specs.Building.{choices_of}
use Rattle.num_format.specs.English.{english}
use Rattle.uses_settings.specs.Settings.{after_line, call_in}
use Rattle.uses_settings.proofs.settings.parse_format.Given as goal

-- each line so far is a setting, and the builder has them all
abbrev pub invariant-loop-line : goal.invariant-loop-line
invariant-loop-line l = (l.builder ≡ fold after_line (choices_of english) (map (λ line. line.now) l.yielded))
    × All (λ line. IsSome (call_in line)) (map (λ line. line.now) l.yielded)
