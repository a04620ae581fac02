-- A format whose symbols have only characters of those of locales is not ambiguous.
use Rattle.std.proofs.Common.{◌≡◌, ℕ, List, [], refl, ap, ◌∙◌, Bool, false, Contains}
use Rattle.std.specs.Char.{is_ascii_digit}
use Rattle.std.specs.List.{list_any}
use Rattle.std.specs.Str.{chars}
use Rattle.std.proofs.lemmas.Bool.{both_ways, false_from_ne_true}
use Rattle.std.proofs.lemmas.List.Elements.{All-weaker}
use Rattle.std.proofs.lemmas.List.Folds.{list_any_at, list_any_none}
use Rattle.num_format_text.specs.declared.grouping.Grouping.{Grouping}
use Rattle.num_format_text.specs.declared.grouping.Grouping.TheVariants.{Posix}
use Rattle.num_format_text.specs.Characters.{HasCommonSymbols, HasOnly, minus_sign_characters, separator_characters}
use Rattle.num_format_text.specs.Format.{FormatData}
use Rattle.num_format_int.specs.Grouped.{printed_separator}
use Rattle.num_format_parsing.specs.Reading.{is_other_numeral}
use Rattle.num_format_parsing.specs.Strict.{HasNoNumeral, IsUnambiguous}
use Rattle.num_format_parsing.proofs.DigitLemmas.{text_digits-none}
use Rattle.num_format_parsing.proofs.ReadingLemmas.{ucd_category}

-- a test that none of the characters passes, none of a text with only these characters passes
pub fails_in : (p : ℕ → Bool) (characters text : List ℕ) → list_any p characters ≡ false → HasOnly characters text
    → list_any p (chars text) ≡ false
fails_in p characters text none only =
    list_any_none p (chars text)
    (All-weaker (Contains characters) (λ c. p c ≡ false) (λ c at. false_from_ne_true _
    (λ yes. both_ways _ none (list_any_at p characters at.0 c at.1 (ap p at.2 ∙ yes)))) (chars text) only)

-- a text has no numeral, if none of the characters that it may have is a digit or another numeral
has_no_numeral : (characters text : List ℕ) → list_any is_ascii_digit characters ≡ false → list_any is_other_numeral characters ≡ false
    → HasOnly characters text → HasNoNumeral text
has_no_numeral characters text no_digit no_other only = record {
  no_digit = text_digits-none (chars text) (fails_in is_ascii_digit characters text no_digit only);
  no_other = fails_in is_other_numeral characters text no_other only;
}

-- what holds of a separator and of the empty text, holds of the separator as far as it is printed
pub of_printed : (P : List ℕ → Type 0) → P [] → (g : Grouping) (s : List ℕ) → P s → P (printed_separator g s)
of_printed P empty Posix s whole = empty
of_printed P empty _ s whole = whole

pub empty_plain : HasNoNumeral []
unfolding chars
empty_plain = record { no_digit = refl; no_other = refl }

-- so such a format is not ambiguous
pub unambiguous_from_common : (f : FormatData) → HasCommonSymbols f → IsUnambiguous f
unfolding ucd_category
unambiguous_from_common f common = record {
  sign_given = common.sign_given;
  sign = has_no_numeral minus_sign_characters f.minus_sign refl refl common.sign;
  separator = of_printed HasNoNumeral empty_plain f.grouping f.separator
      (has_no_numeral separator_characters f.separator refl refl common.separator);
}
