-- Texts with the byte that ends them.
use Rattle.std.specs.Prelude.{ℕ, ◌-◌, ◌==◌, nat_lt, Bool, ◌&&◌, if◌then◌else◌, List, [], ◌∷◌, ◌++◌, length, take}
use Rattle.std.specs.List.{slice_index}

-- a text and the byte that ends it
abbrev pub ended_by : (end : ℕ) → List ℕ → List ℕ
ended_by end text = text ++ end ∷ []

-- a text and a newline
abbrev pub line : List ℕ → List ℕ
line text = ended_by 10 text

-- whether a text ends with this byte, or, if it is empty, whether what is before it does
abbrev pub ends_with : (end : ℕ) → (before : Bool) → List ℕ → Bool
ends_with end before text = if nat_lt 0 (length text) then slice_index text (length text - 1) == end else before

-- a text and the byte that ends it, unless that is its last byte already
abbrev pub ended_once : (end : ℕ) → (before : Bool) → List ℕ → List ℕ
ended_once end before text = if ends_with end before text then text else ended_by end text

-- how many bytes a text has without this byte at its end
abbrev pub len_without : (end : ℕ) → List ℕ → ℕ
len_without end text = if nat_lt 0 (length text) && (slice_index text (length text - 1) == end) then length text - 1 else length text

-- a text without this byte at its end
abbrev pub without_end : (end : ℕ) → List ℕ → List ℕ
without_end end text = take (len_without end text) text
