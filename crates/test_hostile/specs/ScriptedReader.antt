-- What one call does to a `ScriptedReader`.
use Rattle.std.specs.Prelude.{ℕ, min, max, length, Option, None, Some, slice_get}
use Rattle.test_hostile.specs.declared.scripted_reader.ReadStep.{ReadStep}
use Rattle.test_hostile.specs.declared.scripted_reader.ReadStep.TheVariants.{Give, Interrupt, Fail}
use Rattle.test_hostile.specs.declared.scripted_reader.ScriptedReader.{ScriptedReader}

-- how many bytes a step gives where so many are left and fit, or none where it is an error; past the last step all are given
abbrev pub given_by : Option ReadStep → ℕ → ℕ → Option ℕ
given_by None fit left = Some (min fit left)
given_by (Some (Give most)) fit left = Some (min (min (max most 1) fit) left)
given_by (Some Interrupt) fit left = None
given_by (Some Fail) fit left = None

-- how many bytes the next call gives where so many fit, or none where it is an error
abbrev pub given : ScriptedReader → ℕ → Option ℕ
given r fit = given_by (slice_get r.steps.now r.calls) fit (length r.rest.now)
