-- The data of the locale en, which a builder starts with.
use Rattle.std.specs.Prelude.{ℕ, List, codes, ◌∷◌, []}
use Rattle.num_format_text.specs.declared.grouping.Grouping.{Grouping}
use Rattle.num_format_text.specs.declared.grouping.Grouping.TheVariants.{Standard}
use Rattle.num_format_text.specs.Format.{FormatData}

-- the data of the locale en; 226, 136, 158 is the infinity sign, U+221E, in UTF-8
abbrev pub english : FormatData
english = record {
  decimal = codes ".";
  grouping = Standard;
  infinity = 226 ∷ 136 ∷ 158 ∷ [];
  minus_sign = codes "-";
  nan = codes "NaN";
  plus_sign = codes "+";
  separator = codes ",";
}

-- the data of `en` with another grouping, separator and minus sign
abbrev pub english_with : Grouping → List ℕ → List ℕ → FormatData
english_with grouping separator minus_sign = record english { grouping = grouping; separator = separator; minus_sign = minus_sign }
