-- How locales group the digits of a number.
use Rattle.std.specs.Prelude.{ℕ, List, [], ◌∷◌}
use Rattle.num_format_cldr.specs.Unusual.{Unusual, for_names, value_for}

-- groups of three digits
abbrev pub standard : ℕ
standard = 0

-- a last group of three digits, and groups of two before it
abbrev pub indian : ℕ
indian = 1

-- no groups
abbrev pub posix : ℕ
posix = 2

-- the locales with another grouping than groups of three
abbrev pub unusual_groupings : List (Unusual ℕ)
unusual_groupings =
    for_names ("as" ∷ "bn" ∷ "bn-IN" ∷ "brx" ∷ "ccp" ∷ "ccp-IN" ∷ "dz" ∷ "en-IN" ∷ "gu" ∷ "hi" ∷ "ks" ∷
    "ml" ∷ "mr" ∷ "ne" ∷ "ne-IN" ∷ "or" ∷ "pa" ∷ "pa-Guru" ∷ "ta" ∷ "ta-LK" ∷ "te" ∷ []) indian
    ∷ for_names ("en-US-POSIX" ∷ []) posix
    ∷ []

-- how a locale groups the digits of a number
abbrev pub grouping_of : List ℕ → ℕ
grouping_of name = value_for name unusual_groupings standard
