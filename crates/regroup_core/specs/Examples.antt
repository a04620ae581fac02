-- What the codec of the tests makes of a text.
use Rattle.std.specs.Prelude.{ℕ, List, [], ◌∷◌, Result, Ok, Err}

-- two bytes get a comma between them, and other texts are refused
abbrev pub with_comma : List ℕ → Result (List ℕ) ℕ
with_comma (first ∷ second ∷ []) = Ok (first ∷ 44 ∷ second ∷ [])
with_comma text = Err 7
