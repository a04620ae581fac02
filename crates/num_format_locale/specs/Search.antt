-- Which comparisons with names settle the result of looking a text up.
use Rattle.num_format_cldr.specs.declared.TheConstants.{LEN}
use Rattle.std.specs.Prelude.{ℕ, ◌+◌, ◌-◌, ◌/◌, ◌<◌, ◌≤◌, ◌==◌, ◌≡◌, ◌⊎◌, List, [], ◌∷◌, ◌++◌, map, Contains, Result, IfOk, OnErr}
use Rattle.std.specs.Prelude.{if◌then◌else◌}
use Rattle.std.specs.Ordering.{nat_cmp}
use Rattle.std.specs.declared.cmp.Ordering.TheVariants.{Less, Equal, Greater}
use Rattle.std.specs.Cmp.Lexicographic.{slice_cmp}
use Rattle.std.specs.Str.{byte}
use Rattle.num_format_text.specs.declared.error.Error.{Error}
use Rattle.num_format_locale.specs.Names.{Spells, name_of}

-- the byte itself, but a hyphen for an underscore
abbrev pub hyphen_for_underscore : ℕ → ℕ
hyphen_for_underscore each = if each == byte "_" then byte "-" else each

-- the text, with a hyphen for every underscore
abbrev pub hyphened : List ℕ → List ℕ
hyphened text = map hyphen_for_underscore text

-- the text has both a hyphen and an underscore
abbrev pub IsMixed : List ℕ → Type 0
IsMixed text = Contains text (byte "-") × Contains text (byte "_")

-- the place is the last of the places
abbrev pub IsLast : List ℕ → ℕ → Type 0
IsLast places place = (before : List ℕ) × (places ≡ before ++ place ∷ [])

-- the text, with hyphens for underscores, is between the names at places k - 1 and k in byte order
-- and equal to neither; the places have both k - 1 and k; there is no name before the first or after
-- the last
pub record IsBetween (text places : List ℕ) (k : ℕ) : Type 0 where
  pub within : k ≤ LEN
  pub listed_below : 0 < k → Contains places (k - 1)
  pub listed_above : k < LEN → Contains places k
  pub above : 0 < k → slice_cmp nat_cmp (name_of (k - 1)) (hyphened text) ≡ Less
  pub below : k < LEN → slice_cmp nat_cmp (hyphened text) (name_of k) ≡ Less

-- the text spells the name at the place, and the place is the last of the places
abbrev pub Finds : List ℕ → List ℕ → ℕ → Type 0
Finds text places place = Spells text (name_of place) × IsLast places place

-- the text is mixed, or it is between two neighboring names whose places are listed
abbrev pub RulesOut : List ℕ → List ℕ → Type 0
RulesOut text places = IsMixed text ⊎ ((k : ℕ) × IsBetween text places k)

-- comparisons with the names at the places settle the result of looking the text up: since names
-- rise, they alone show which name the text spells, or that it spells none
pub record Settles (text places : List ℕ) (result : Result ℕ Error) : Type 0 where
  pub found : IfOk result (λ place. Finds text places place)
  pub refused : OnErr result (RulesOut text places)

-- the places are those that halving compares, where the name may be at a place from `low` on and before
-- `high`: the place in the middle, and then those in the half that this comparison leaves, which is
-- below or above it; none follows where the text is equal to the name, or where no place is left
abbrev pub Halves : List ℕ → List ℕ → ℕ → ℕ → Type 0
Halves text [] low high = low ≡ high
Halves text (place ∷ places) low high =
    (low < high)
    × (place ≡ low + (high - low) / 2)
    × (slice_cmp nat_cmp (hyphened text) (name_of place) ≡ Less → Halves text places low place)
    × (slice_cmp nat_cmp (hyphened text) (name_of place) ≡ Equal → places ≡ [])
    × (slice_cmp nat_cmp (hyphened text) (name_of place) ≡ Greater → Halves text places (place + 1) high)
