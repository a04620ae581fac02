-- What calls append to the text of a line before it is sent, which is `None` where there is no memory for it.
use Rattle.std.specs.Prelude.{◌≡◌, ℕ, List, [], ◌∷◌, ◌++◌, Option, None, Some, Result, Ok, Err, ⊤}
use Rattle.regroup_faults.specs.Fault.{Fault}
use Rattle.regroup_lines.specs.Sending.{SendsLine}
use Rattle.regroup_lines.specs.declared.rules.Output.{Output}

-- these bytes are appended to a text, or there is no memory for that
abbrev pub Adds : (old new : Option (List ℕ)) → List ℕ → Type 0
Adds old None bytes = ⊤
Adds None (Some new) bytes = ⊥
Adds (Some old) (Some new) bytes = new ≡ old ++ bytes

-- the same of bytes, or the fault in place of them is returned
abbrev pub AddsIf : {T : Type 0} → Result (List ℕ) Fault → (old new : Option (List ℕ)) → Result T Fault → Type 0
AddsIf (Ok bytes) old new (Ok added) = Adds old new bytes
AddsIf (Ok bytes) old new (Err returned) = ⊥
AddsIf (Err fault) old new (Ok added) = ⊥
AddsIf (Err fault) old new (Err returned) = returned ≡ fault

-- what is between two fields is appended if they are written anew, and else left to be passed on with the bytes from a place on: the
-- result is that place, or the next field's
abbrev pub Separates : Option Output → (kept next : ℕ) → (old new : Option (List ℕ)) → ℕ → Type 0
Separates None kept next old new result = (result ≡ kept) × (new ≡ old)
Separates (Some output) kept next old new result = (result ≡ next) × Adds old new (output.delimiter ∷ [])

-- a text is sent, and the byte that ends its line: that without memory is at fault of a failed write
abbrev pub SendsAdded : (line_end : ℕ) → (text : Option (List ℕ)) → (old new : Option (List ℕ)) → Result (Unit {0}) Fault → Type 0
SendsAdded line_end text old new result = (line : List ℕ) → Adds (Some []) text line → SendsLine line_end (Ok line) old new result
