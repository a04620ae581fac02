-- Laws of formats of one's own and of their builder.
use Rattle.std.specs.Prelude.{◌≡◌, codes, List, fold, ℤ, Ok}
use Rattle.num_format_text.specs.English.{english}
use Rattle.num_format_text.specs.Format.{FormatData}
use Rattle.num_format_int.specs.Text.{text_of}
use Rattle.num_format_locale.specs.Data.{locale_data}
use Rattle.num_format_locale.specs.Names.{name_of}
use Rattle.num_format_custom.specs.Building.{Call, Choices, after_call, built, choices_of, last_choices}

-- a builder starts with the data of the locale `en`, which has place 90
pub record EnglishLaw : Type 0 where
  pub named : name_of 90 ≡ codes "en"
  pub same : locale_data 90 ≡ english

-- after any calls a builder has the last value of each field, so it builds the same after all calls that agree in these
pub record BuildingLaw : Type 0 where
  pub last : (before : Choices) (calls : List Call) → fold after_call before calls ≡ last_choices before calls
  pub same : (c d : Choices) (xs ys : List Call) → last_choices c xs ≡ last_choices d ys
      → built (fold after_call c xs) ≡ built (fold after_call d ys)

-- a builder that was given the data of a format builds that format; and formats with the same grouping, minus sign and separator, as equal
-- ones have, print every number alike
pub record CustomFormatLaw : Type 0 where
  pub same : (f : FormatData) → built (choices_of f) ≡ Ok f
  pub alike : (f g : FormatData) → f.grouping ≡ g.grouping → f.minus_sign ≡ g.minus_sign → f.separator ≡ g.separator → (z : ℤ)
      → text_of f z ≡ text_of g z
