-- The digit set that a language tag names.
use Rattle.std.specs.Prelude.{◌≡◌, ◌==◌, ◌||◌, ℕ, Bool, List, [], ◌∷◌, bytes_eq, codes, map, if◌then◌else◌}
use Rattle.std.specs.Prelude.{Option, Some, None, Result, Ok, MatchResult, IsSome}
use Rattle.std.specs.Bool.{MatchBool}
use Rattle.std.specs.Char.{to_ascii_lowercase}
use Rattle.std.specs.List.{position, slice_split}
use Rattle.std.specs.Option.{is_some, option_and_then, option_map}
use Rattle.std.specs.Str.{byte}
use Rattle.num_format_locale.specs.Lookup.{LooksUpTag, language_of}
use Rattle.num_format_locale.specs.Names.{name_of}
use Rattle.num_format_digits.specs.Digits.{default_zero, set_numbered}
use Rattle.num_format_digits.specs.Sets.{sets}

-- the bytes that stand between the parts of a tag: `-` and `_`
abbrev pub divides : ℕ → Bool
divides b = b == byte "-" || b == byte "_"

-- the parts of a tag
abbrev pub parts : List ℕ → List (List ℕ)
parts tag = slice_split divides tag

-- a part is a word, in any case
abbrev pub is_word : List ℕ → List ℕ → Bool
is_word word part = bytes_eq (map to_ascii_lowercase part) (map to_ascii_lowercase word)

-- what follows the first of the parts that is a word, before an `x`: an empty part where nothing does
abbrev pub or_empty : List (List ℕ) → List (List ℕ)
or_empty [] = [] ∷ []
or_empty (p ∷ ps) = p ∷ ps

abbrev pub after : List ℕ → List (List ℕ) → Option (List (List ℕ))
after word [] = None
after word (p ∷ ps) = if is_word word p then Some (or_empty ps) else if is_word (codes "x") p then None else after word ps

-- the name at the start of what follows `nu`, which is empty if there is a second `nu`
abbrev pub first : List (List ℕ) → List ℕ
first [] = []
first (p ∷ ps) = p

abbrev pub name_at : List (List ℕ) → List ℕ
name_at ps = if is_some (after (codes "nu") ps) then [] else first ps

-- the name that a text has for its digits, after `u` and `nu`
abbrev pub name_in : List ℕ → Option (List ℕ)
name_in text = option_map name_at (option_and_then (after (codes "nu")) (after (codes "u") (parts text)))

-- that of a tag, before its first `.` or `@`
abbrev pub digits_in : List ℕ → Option (List ℕ)
digits_in tag = name_in (language_of tag)

-- the zero of the set whose name a word is, in any case
abbrev pub set_of_word : List ℕ → Option ℕ
set_of_word word = option_and_then set_numbered (position (λ set. is_word set.0 word) sets)

-- what is returned of a tag with that name: nothing, the default set of the locale that the tag finds, the set of the name, or an error
abbrev pub TagResult : {E : Type 0} → List ℕ → Option (List ℕ) → Result (Option ℕ) E → Type 0
TagResult tag None result = result ≡ Ok None
TagResult tag (Some name) result = MatchBool (is_word (codes "native") name)
    (MatchResult result (λ zero. (place : ℕ) × LooksUpTag tag (Some place) × (zero ≡ Some (default_zero (name_of place))))
    (λ e. LooksUpTag tag None))
    (MatchResult result (λ zero. (zero ≡ set_of_word name) × IsSome zero) (λ e. set_of_word name ≡ None))
