-- The names of the locales and of their variants, and which texts spell a name.
use Rattle.num_format_cldr.specs.declared.TheConstants.{LEN}
use Rattle.std.specs.Prelude.{ℕ, ◌<◌, ◌==◌, ◌≡◌, ◌⊎◌, List, [], map, bytes_eq, codes, slice_index_or, Result, Ok, IfOk, IfErr, OnErr}
use Rattle.std.specs.Prelude.{if◌then◌else◌}
use Rattle.std.specs.Str.{byte}
use Rattle.num_format_cldr.specs.Table.{table_names}
use Rattle.num_format_text.specs.declared.error.Error.{Error}
use Rattle.num_format_text.specs.Cut.{cut_text}
use Rattle.num_format_text.specs.Refusal.{ParseLocale, refusal_of}

-- the name of the locale at a place, as a list of bytes
abbrev pub name_of : ℕ → List ℕ
name_of place = slice_index_or table_names place []

-- the byte itself, but an underscore for a hyphen
abbrev pub underscore_for_hyphen : ℕ → ℕ
underscore_for_hyphen each = if each == byte "-" then byte "_" else each

-- the name of the variant of a locale: the name with an underscore for every hyphen, and `as_` for
-- `as`, which is a keyword of Rust
abbrev pub variant_name : List ℕ → List ℕ
variant_name name = if bytes_eq name (codes "as") then codes "as_" else map underscore_for_hyphen name

-- the name of the variant of the locale at a place
abbrev pub variant_name_of : ℕ → List ℕ
variant_name_of place = variant_name (name_of place)

-- the text is the name, or the name with an underscore for every hyphen
abbrev pub Spells : List ℕ → List ℕ → Type 0
Spells text name = (text ≡ name) ⊎ (text ≡ map underscore_for_hyphen name)

-- the result of looking a text up: the place whose name it spells, or an error that keeps the text
pub record LooksUp (text : List ℕ) (result : Result ℕ Error) : Type 0 where
  -- a place whose name the text spells is the result
  pub found : (place : ℕ) → place < LEN → Spells text (name_of place) → result ≡ Ok place
  pub within : IfOk result (λ place. place < LEN)
  pub spelled : IfOk result (λ place. Spells text (name_of place))
  pub unspelled : OnErr result ((place : ℕ) → place < LEN → ¬ Spells text (name_of place))
  -- the error keeps the text, truncated
  pub refused : IfErr result (λ error. refusal_of error ≡ ParseLocale (cut_text text))
