-- Values of some locales that differ from the usual value.
use Rattle.std.specs.Prelude.{ℕ, Bool, ◌&&◌, ◌||◌, not, nat_eq, List, [], ◌∷◌, ◌++◌, codes, if◌then◌else◌}
use Rattle.std.specs.List.{list_any, starts_with}
use Rattle.std.specs.Cmp.Lexicographic.{pointwise}
use Prim.Native.String.{String}

-- whether a name is in a list
abbrev pub is_among : List String → List ℕ → Bool
is_among names name = list_any (λ each. pointwise nat_eq name (codes each)) names

-- whether a name is the stem, or begins with the stem and a hyphen (45)
abbrev pub is_of_stem : String → List ℕ → Bool
is_of_stem stem name = pointwise nat_eq name (codes stem) || starts_with nat_eq name (codes stem ++ 45 ∷ [])

-- the names that pass a test, and their value in place of the usual one
pub record Unusual (X : Type 0) : Type 0 where
  pub is_for : List ℕ → Bool
  pub value : X

-- the names of a list have this value
abbrev pub for_names : {X : Type 0} → List String → X → Unusual X
for_names names value = record { is_for = is_among names; value = value }

-- all names of a stem have this value
abbrev pub for_stem : {X : Type 0} → String → X → Unusual X
for_stem stem value = record { is_for = is_of_stem stem; value = value }

-- all names of a stem, but those of a list, have this value
abbrev pub for_stem_but : {X : Type 0} → String → List String → X → Unusual X
for_stem_but stem names value = record { is_for = λ name. is_of_stem stem name && not (is_among names name); value = value }

-- the value for a name: that of the first line that is for it, or else the usual one
abbrev pub value_for : {X : Type 0} → List ℕ → List (Unusual X) → X → X
value_for name [] usual = usual
value_for name (line ∷ lines) usual = if line.is_for name then line.value else value_for name lines usual
