-- The fields that have names in a header.
use Rattle.std.specs.Prelude.{ℕ, Bool, false, true, ◌&&◌, if◌then◌else◌, List, [], ◌∷◌, bytes_eq, take, Result, Ok, Err}
use Rattle.regroup_core.specs.Fields.{fields_len, is_field, number_of, parts_of}
use Rattle.regroup_core.specs.Places.{content_of, doubled, is_in_quotes, trimmed}
use Rattle.regroup_core.specs.declared.dialect.Separation.{Separation}
use Rattle.regroup_core.specs.declared.header.NameError.{NameError}
use Rattle.regroup_core.specs.declared.header.NameError.TheVariants.{Doubled, Unknown}

-- whether a part is a field and has this name: its text, and in quotes its text with each quote doubled
abbrev pub is_named : Separation → (name part : List ℕ) → Bool
is_named separation name part =
    is_field separation part
    && bytes_eq (trimmed (content_of separation part)) (if is_in_quotes separation part then doubled name else name)

-- the numbers of the fields that have the name, of those that so many fields are before
abbrev pub numbers_named : Separation → (name : List ℕ) → (before : ℕ) → List (List ℕ) → List ℕ
numbers_named separation name before [] = []
numbers_named separation name before (part ∷ parts) =
    let number = number_of separation before part in
    let later = numbers_named separation name number parts in
    if is_named separation name part then number ∷ later else later

-- the one number that there is
abbrev pub only_one : List ℕ → Result ℕ NameError
only_one [] = Err Unknown
only_one (number ∷ []) = Ok number
only_one (number ∷ other ∷ more) = Err Doubled

-- the number of the field that has the name in a header
abbrev pub number_named : Separation → (header name : List ℕ) → Result ℕ NameError
number_named separation header name =
    only_one (numbers_named separation name 0 (parts_of separation (take (fields_len header) header)))

-- the one number that there is, if this was found before and the field of this number is one too
abbrev pub also : Result ℕ NameError → (is_named : Bool) → (number : ℕ) → Result ℕ NameError
also found false number = found
also (Err Unknown) true number = Ok number
also (Err Doubled) true number = Err Doubled
also (Ok first) true number = Err Doubled
