-- What one call does to a `Scripted`.
use Rattle.std.specs.Prelude.{ℕ, min, Option, None, Some, if◌then◌else◌, nat_lt, slice_get}
use Rattle.test_hostile.specs.declared.scripted.Scripted.{Scripted}
use Rattle.test_hostile.specs.declared.scripted.Step.{Step}
use Rattle.test_hostile.specs.declared.scripted.Step.TheVariants.{Take, Zero, Interrupt, Fail}

-- how many of the offered bytes a step accepts, or none where it is an error; past the last step all are accepted
abbrev pub accepted_by : Option Step → ℕ → Option ℕ
accepted_by None offered = Some offered
accepted_by (Some (Take most)) offered = Some (min most offered)
accepted_by (Some Zero) offered = Some 0
accepted_by (Some Interrupt) offered = None
accepted_by (Some Fail) offered = None

-- how many of the offered bytes the next call accepts, or none where it is an error: to offer more than there is space for is one
abbrev pub accepted : Scripted → ℕ → Option ℕ
accepted w offered = if nat_lt w.space offered then None else accepted_by (slice_get w.steps.now w.calls) offered
