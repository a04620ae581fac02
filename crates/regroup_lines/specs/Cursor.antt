-- A walk over the fields of a line.
use Rattle.std.specs.Prelude.{◌≡◌, ℕ, nat_le, Bool, true, false, if◌then◌else◌, List, [], ◌∷◌, ◌++◌, length, drop, Option, None, Some}
use Rattle.std.specs.Borrow.{Bor}
use Rattle.std.specs.List.{flat_map, join_with_byte}
use Rattle.regroup_lines.specs.Lines.{fields_of}
use Rattle.regroup_lines.specs.Places.{count_after, number_of, numbered_in}
use Rattle.regroup_lines.specs.declared.cursor.Cursor.{Cursor}
use Rattle.regroup_lines.specs.declared.rules.FieldRange.{FieldRange}
use Rattle.regroup_lines.specs.declared.rules.Fields.{Fields}

-- the fields that are left
abbrev pub left : Fields → Cursor → List (List ℕ)
left fields cursor = if nat_le cursor.start (length cursor.line.now) then fields_of fields (drop cursor.start cursor.line.now) else []

-- those of them that are in a range, with their numbers
abbrev pub left_in : FieldRange → Fields → Cursor → List (ℕ × List ℕ)
left_in range fields cursor = numbered_in range fields.blanks cursor.count (left fields cursor)

-- what the next field of a cursor is, or that there is none
abbrev pub TakesField : Fields → (old new : Cursor) → Option (Bor (List ℕ)) → Type 0
TakesField fields old new None = (left fields old ≡ []) × (new ≡ old)
TakesField fields old new (Some field) = (left fields old ≡ field.now ∷ left fields new)
    × (new.count ≡ number_of fields.blanks old.count field.now) × (new.line ≡ old.line)

-- a cursor moves past fields
pub record Passes (fields : Fields) (old new : Cursor) : Type 0 where
  pub passed : List (List ℕ)
  pub before : left fields old ≡ passed ++ left fields new
  pub counted : new.count ≡ count_after fields.blanks old.count passed
  pub in_line : new.line ≡ old.line

-- texts with a byte between two, and before the first one too if others are before it
abbrev pub joined_after : (is_begun : Bool) → ℕ → List (List ℕ) → List ℕ
joined_after false byte texts = join_with_byte byte texts
joined_after true byte texts = flat_map (λ text. byte ∷ text) texts

-- whether there are fields before or among these
abbrev pub is_begun_by : (is_begun : Bool) → List (ℕ × List ℕ) → Bool
is_begun_by is_begun [] = is_begun
is_begun_by is_begun (item ∷ items) = true
