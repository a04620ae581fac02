-- The numbers that are found in fields.
use Rattle.std.specs.Prelude.{◌≡◌, ℕ, ◌≤◌, true, List, Option, None, Some}
use Rattle.regroup_faults.specs.Notation.{NotationData, number_text}
use Rattle.regroup_lines.specs.Csv.{field_with, placed}
use Rattle.regroup_lines.specs.declared.fields.FieldNumber.{FieldNumber}
use Rattle.regroup_lines.specs.declared.rules.Fields.{Fields}

-- a number is at a place in a field of so many bytes, and after a quote if it is in quotes
pub record IsFoundIn (len : ℕ) (found : FieldNumber) : Type 0 where
  pub inside : found.is_quoted ≡ true → 1 ≤ found.start
  pub ordered : found.start ≤ found.end
  pub within : found.end ≤ len

-- a field as it is written, by the number that was found in it, if one was
abbrev pub field_as : Fields → (line_end : ℕ) → (to : NotationData) → (field : List ℕ) → Option FieldNumber → List ℕ
field_as fields line_end to field None = field_with fields line_end field None
field_as fields line_end to field (Some found) = placed fields line_end found.is_quoted field (
  found.start,
  found.end,
) (number_text to found.value)
