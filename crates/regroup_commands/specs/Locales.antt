-- The locales that words name.
use Rattle.std.specs.Prelude.{ℕ, Bool, ◌||◌, List, map, Result}
use Rattle.std.specs.List.{position}
use Rattle.std.specs.Option.{ok_or, option_map}
use Rattle.std.specs.Str.{bytes_eq}
use Rattle.num_format.specs.Cut.{cut_text}
use Rattle.num_format.specs.Data.{locale_data}
use Rattle.num_format.specs.Format.{FormatData}
use Rattle.num_format.specs.Names.{underscore_for_hyphen}
use Rattle.num_format.specs.Refusal.{Refusal, ParseLocale}
use Rattle.num_format.specs.Table.{table_names}

-- whether the text is the name, or the name with every hyphen an underscore
abbrev pub is_spelling : List ℕ → List ℕ → Bool
is_spelling text name = bytes_eq text name || bytes_eq text (map underscore_for_hyphen name)

-- the data of the locale whose name the text spells, or the error of a text that spells none
abbrev pub locale_named : List ℕ → Result FormatData Refusal
locale_named text = ok_or (option_map locale_data (position (is_spelling text) table_names)) (ParseLocale (cut_text text))
