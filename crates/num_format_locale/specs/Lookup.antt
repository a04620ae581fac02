-- The locale as which a language tag is looked up: that of the longest name with which the tag begins.
use Rattle.num_format_cldr.specs.declared.TheConstants.{LEN}
use Rattle.std.specs.Prelude.{ℕ, ◌<◌, ◌≤◌, ◌==◌, ◌||◌, ◌≡◌, ◌⊎◌, Bool, List, ◌∷◌, ◌++◌, length, map, codes, Option, IfSome, IfNone}
use Rattle.std.specs.Char.{to_ascii_lowercase}
use Rattle.std.specs.List.{before_first}
use Rattle.std.specs.Str.{byte}
use Rattle.num_format_locale.specs.Names.{name_of}
use Rattle.num_format_locale.specs.Search.{hyphened}

-- whether a byte ends the language of a tag, as in `de_DE.UTF-8` and `sr_RS@latin`
abbrev pub ends_language : ℕ → Bool
ends_language each = each == byte "." || each == byte "@"

-- the language of a tag: what is before its first `.` or `@`
abbrev pub language_of : List ℕ → List ℕ
language_of tag = before_first ends_language tag

-- two texts differ in nothing but the case of ASCII letters
abbrev pub IsSameIgnoringCase : List ℕ → List ℕ → Type 0
IsSameIgnoringCase s t = map to_ascii_lowercase s ≡ map to_ascii_lowercase t

-- the language is `C` or `POSIX`, in any case
abbrev pub IsPosix : List ℕ → Type 0
IsPosix language = IsSameIgnoringCase language (codes "C") ⊎ IsSameIgnoringCase language (codes "POSIX")

-- the name is the language, or what is before one of its hyphens, in any case
abbrev pub Matches : List ℕ → List ℕ → Type 0
Matches language name =
    IsSameIgnoringCase language name
    ⊎ ((front : List ℕ) × (rest : List ℕ) × (language ≡ front ++ byte "-" ∷ rest) × IsSameIgnoringCase front name)

-- the name at the place matches the language, and no name that matches it is longer
pub record IsLongestMatch (language : List ℕ) (place : ℕ) : Type 0 where
  pub within : place < LEN
  pub matches : Matches language (name_of place)
  pub longest : (other : ℕ) → other < LEN → Matches language (name_of other) → length (name_of other) ≤ length (name_of place)

-- the result of looking a tag up, where an underscore of its language counts as a hyphen
pub record LooksUpTag (tag : List ℕ) (result : Option ℕ) : Type 0 where
  pub within : IfSome result (λ place. place < LEN)
  -- `C` and `POSIX` are the locale en-US-POSIX
  pub posix : IsPosix (language_of tag) → IfSome result (λ place. name_of place ≡ codes "en-US-POSIX")
  -- any other tag is its longest match
  pub longest : ¬ IsPosix (language_of tag) → IfSome result (IsLongestMatch (hyphened (language_of tag)))
  -- there is no result only where the tag is neither of the two, and no name matches it
  pub other : IfNone result (¬ IsPosix (language_of tag))
  pub missing : IfNone result ((place : ℕ) → place < LEN → ¬ Matches (hyphened (language_of tag)) (name_of place))
