-- Laws of the names and the data of locales, over the definitions alone.
use Rattle.std.specs.Prelude.{◌≡◌, ℕ, ◌<◌, List, Option, Some, Result, Ok}
use Rattle.std.specs.Hash.{HashWrites}
use Rattle.std.specs.Ordering.{nat_cmp}
use Rattle.std.specs.declared.cmp.Ordering.{Ordering}
use Rattle.std.specs.Cmp.Lexicographic.{slice_cmp}
use Rattle.num_format_cldr.specs.declared.TheConstants.{LEN}
use Rattle.num_format_cldr.specs.Entry.{IsWellFormed}
use Rattle.num_format_cldr.specs.Table.{entry}
use Rattle.num_format_text.specs.Equality.{HashLaw}
use Rattle.num_format_text.specs.declared.error.Error.{Error}
use Rattle.num_format_locale.specs.Lookup.{IsSameIgnoringCase, LooksUpTag}
use Rattle.num_format_locale.specs.Names.{LooksUp, Spells, name_of, variant_name_of}

-- a text spells the name of at most one locale
abbrev pub UniqueLaw : Type 0
UniqueLaw = (text : List ℕ) (p q : ℕ) → p < LEN → q < LEN →
    Spells text (name_of p) → Spells text (name_of q) → p ≡ q

-- a locale's name, looked up, gives that locale
abbrev pub FoundByNameLaw : Type 0
FoundByNameLaw = (place : ℕ) (result : Result ℕ Error) → place < LEN →
    LooksUp (name_of place) result → result ≡ Ok place

-- two locales have different variants
abbrev pub VariantLaw : Type 0
VariantLaw = (p q : ℕ) → p < LEN → q < LEN → variant_name_of p ≡ variant_name_of q → p ≡ q

-- places compare as their names do, byte by byte
abbrev pub OrderLaw : Type 0
OrderLaw = (p q : ℕ) → p < LEN → q < LEN → slice_cmp nat_cmp (name_of p) (name_of q) ≡ nat_cmp p q

-- the data of each locale are well formed
abbrev pub WellFormedLaw : Type 0
WellFormedLaw = (place : ℕ) → place < LEN → IsWellFormed (entry place)

-- the places of the locales
abbrev pub Place : Type 0
Place = (place : ℕ) × (place < LEN)

-- a hasher is given the same for two locales exactly if they are the same
abbrev pub LocaleHashLaw : (ℕ → HashWrites) → Type 0
LocaleHashLaw hash_input = HashLaw {X = Place} (λ place. place.0) (λ place. hash_input place.0)

-- two locales compare as their names do, byte by byte
abbrev pub LocaleOrderLaw : (ℕ → ℕ → Ordering) → Type 0
LocaleOrderLaw cmp = (p q : ℕ) → p < LEN → q < LEN → cmp p q ≡ slice_cmp nat_cmp (name_of p) (name_of q)

-- a tag that is a locale's name, in any case, looked up, gives that locale
abbrev pub FoundByTagLaw : Type 0
FoundByTagLaw = (tag : List ℕ) (place : ℕ) (result : Option ℕ) → place < LEN →
    IsSameIgnoringCase tag (name_of place) → LooksUpTag tag result → result ≡ Some place
