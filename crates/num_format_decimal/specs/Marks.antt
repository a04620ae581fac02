-- Formats under which every decimal parses again from its text.
use Rattle.std.specs.Prelude.{◌≡◌, ℕ, List, [], IsUtf8}
use Rattle.num_format_text.specs.Format.{FormatData}
use Rattle.num_format_int.specs.Grouped.{printed_separator}
use Rattle.num_format_parsing.specs.Strict.{HasNoNumeral, IsUnambiguous}

-- a mark is neither empty nor the separator that is printed, and no character of it is numeric
pub record IsMark (mark separator : List ℕ) : Type 0 where
  pub given : ¬ (mark ≡ [])
  pub plain : HasNoNumeral mark
  pub apart : ¬ (mark ≡ separator)

-- the format is not ambiguous, which is that every whole number reads back; and its decimal mark is such a mark
pub record MarksDecimals (f : FormatData) : Type 0 where
  pub unambiguous : IsUnambiguous f
  pub mark : IsMark f.decimal (printed_separator f.grouping f.separator)

-- a format that marks decimals, whose symbols are UTF-8, as those of every `Format` are
pub record IsPlainFormat (f : FormatData) : Type 0 where
  pub sign_utf8 : IsUtf8 f.minus_sign
  pub separator_utf8 : IsUtf8 f.separator
  pub mark_utf8 : IsUtf8 f.decimal
  pub marks : MarksDecimals f
