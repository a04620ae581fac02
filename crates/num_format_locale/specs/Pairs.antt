-- The pairs of letters with which names begin.
use Rattle.std.specs.Prelude.{ℕ, ◌≡◌, ◌+◌, ◌-◌, ◌*◌, ◌<◌, ◌≤◌, List, [], ◌∷◌, All, length, slice_index}
use Rattle.std.specs.Char.{IsAsciiLowercase}
use Rattle.std.specs.Str.{byte}
use Rattle.num_format_cldr.specs.declared.TheConstants.{LEN}
use Rattle.num_format_locale.specs.Names.{name_of}

-- how many pairs of lowercase letters there are
abbrev pub pairs : ℕ
pairs = 26 * 26

-- the place of a pair of letters in the order from "aa" to "zz"
abbrev pub place_of_pair : ℕ → ℕ → ℕ
place_of_pair first second = (first - byte "a") * 26 + (second - byte "a")

-- the bytes are letters, and the place is from where their pair begins to where the next one does
pub record IsOfPair (begins : List ℕ) (place first second : ℕ) : Type 0 where
  pub first_letter : IsAsciiLowercase first
  pub second_letter : IsAsciiLowercase second
  pub from : slice_index begins (place_of_pair first second) ≤ place
  pub below : place < slice_index begins (place_of_pair first second + 1)

-- the name at the place begins with two letters, and the place is one of their pair
abbrev pub IsListed : List ℕ → ℕ → List ℕ → Type 0
IsListed begins place [] = ⊥
IsListed begins place (first ∷ []) = ⊥
IsListed begins place (first ∷ second ∷ rest) = IsOfPair begins place first second

-- the list has the place where each pair of letters begins, from "aa" to "zz", and last where "zz" ends
pub record ListsPairs (begins : List ℕ) : Type 0 where
  pub count : length begins ≡ pairs + 1
  pub within : All (λ place. place ≤ LEN) begins
  pub rising : (pair : ℕ) → pair < pairs → slice_index begins pair ≤ slice_index begins (pair + 1)
  pub listed : (place : ℕ) → place < LEN → IsListed begins place (name_of place)
