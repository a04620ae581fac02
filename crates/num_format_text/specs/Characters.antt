-- The characters that minus signs and separators of locales have.
use Rattle.std.specs.Prelude.{◌≡◌, ℕ, List, [], ◌∷◌, All, Contains}
use Rattle.std.specs.Str.{chars}
use Rattle.num_format_text.specs.Format.{FormatData}

-- hyphen-minus, Arabic letter mark, left-to-right mark, right-to-left mark, and minus sign
abbrev pub minus_sign_characters : List ℕ
minus_sign_characters = 0x2D ∷ 0x61C ∷ 0x200E ∷ 0x200F ∷ 0x2212 ∷ []

-- comma, full stop, no-break space, narrow no-break space, right single quotation mark, and Arabic
-- thousands separator
abbrev pub separator_characters : List ℕ
separator_characters = 0x2C ∷ 0x2E ∷ 0xA0 ∷ 0x202F ∷ 0x2019 ∷ 0x66C ∷ []

-- each character of a text, which is a list of bytes, is in the list
abbrev pub HasOnly : List ℕ → List ℕ → Type 0
HasOnly characters text = All (Contains characters) (chars text)

-- the minus sign of a format is not empty, and it and the separator have only characters that those of locales have
pub record HasCommonSymbols (f : FormatData) : Type 0 where
  pub sign_given : ¬ (f.minus_sign ≡ [])
  pub sign : HasOnly minus_sign_characters f.minus_sign
  pub separator : HasOnly separator_characters f.separator
