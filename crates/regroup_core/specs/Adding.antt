-- What a call appends, and what it returns if it does not.
use Rattle.std.specs.Prelude.{◌≡◌, ℕ, List, ◌++◌, length, take, Result, Ok, Err, IsOkAnd}
use Rattle.regroup_core.specs.declared.line.Cause.{Cause}
use Rattle.regroup_core.specs.declared.line.Cause.TheVariants.{Few, Memory, Quote, Refused}

-- bytes are appended, if any
abbrev pub Extends : (old new : List ℕ) → Type 0
Extends old new = take (length old) new ≡ old

-- these bytes are appended, or some, if there is no memory for them
abbrev pub AddsBytes : {X : Type 0} → List ℕ → (old new : List ℕ) → Result (Unit {0}) X → Type 0
AddsBytes bytes old new (Ok added) = new ≡ old ++ bytes
AddsBytes bytes old new (Err error) = Extends old new

-- a text is appended, or some bytes, if there is no memory for it or the cause in place of it is returned
abbrev pub Adds : {E : Type 0} → Result (List ℕ) (Cause E) → (old new : List ℕ) → Result (Unit {0}) (Cause E) → Type 0
Adds text old new (Ok added) = IsOkAnd text (λ bytes. new ≡ old ++ bytes)
Adds text old new (Err Memory) = Extends old new
Adds text old new (Err (Refused number error)) = (text ≡ Err (Refused number error)) × Extends old new
Adds text old new (Err (Quote number)) = (text ≡ Err (Quote number)) × Extends old new
Adds text old new (Err (Few found wanted)) = (text ≡ Err (Few found wanted)) × Extends old new

-- a text is appended, or nothing, if there is no memory for it or the cause in place of it is returned
abbrev pub AppendsLine : {E : Type 0} → Result (List ℕ) (Cause E) → (old new : List ℕ) → Result (Unit {0}) (Cause E) → Type 0
AppendsLine text old new (Ok appended) = IsOkAnd text (λ bytes. new ≡ old ++ bytes)
AppendsLine text old new (Err Memory) = new ≡ old
AppendsLine text old new (Err (Refused number error)) = (text ≡ Err (Refused number error)) × (new ≡ old)
AppendsLine text old new (Err (Quote number)) = (text ≡ Err (Quote number)) × (new ≡ old)
AppendsLine text old new (Err (Few found wanted)) = (text ≡ Err (Few found wanted)) × (new ≡ old)
