-- The decimal marks of locales.
use Rattle.std.proofs.Common.{◌≡◌, ℕ, suc, ◌<◌, List, [], ap, arith, get_or, ◌∙◌, refl, sym, subst, encode_utf8_all}
use Rattle.std.specs.Str.{chars}
use lib.Utf8.{encode}
use Rattle.num_format_cldr.specs.Classes.{Class, A, B, C, D, E, F, G, H, decimal_mark_of, separator_of}
use Rattle.num_format_cldr.specs.declared.TheConstants.{LEN}
use Rattle.num_format_cldr.specs.Entry.{Entry}
use Rattle.num_format_cldr.specs.Table.{entry}
use Rattle.num_format_cldr.proofs.Places.{entry-member, member}
use Rattle.num_format_parsing.proofs.ReadingLemmas.{ucd_category}
use Rattle.num_format_parsing.specs.Strict.{HasNoNumeral}
use Rattle.num_format_decimal.specs.Marks.{IsMark, MarksDecimals}
use Rattle.num_format_cldr.proofs.Facts.{entry_is_well_formed}
use Rattle.num_format_locale.specs.Data.{locale_data}
use Rattle.num_format_parsing.proofs.CommonLemmas.{of_printed, unambiguous_from_common}

-- a mark has a first byte, and another byte than the separator at some place
is_mark : (mark separator : List ℕ) (i first a b : ℕ) → get_or mark 0 0 ≡ suc first → get_or mark i 0 ≡ a → get_or separator i 0 ≡ b
    → ¬ (a ≡ b) → HasNoNumeral mark → IsMark mark separator
is_mark mark separator i first a b begin here there other plain = record {
  given = λ none. absurd (omega (arith, begin, ap (λ text. get_or text 0 0) none));
  plain = plain;
  apart = λ same. other (sym here ∙ ap (λ text. get_or text i 0) same ∙ there);
}

-- that of each class
class_mark : (c : Class) → IsMark (encode_utf8_all (decimal_mark_of c)) (encode_utf8_all (separator_of c))
unfolding encode chars ucd_category
class_mark A = is_mark _ _ 0 45 46 44 refl refl refl (λ same. absurd (omega arith)) (record { no_digit = refl; no_other = refl })
class_mark B = is_mark _ _ 0 43 44 46 refl refl refl (λ same. absurd (omega arith)) (record { no_digit = refl; no_other = refl })
class_mark C = is_mark _ _ 0 43 44 194 refl refl refl (λ same. absurd (omega arith)) (record { no_digit = refl; no_other = refl })
class_mark D = is_mark _ _ 0 43 44 226 refl refl refl (λ same. absurd (omega arith)) (record { no_digit = refl; no_other = refl })
class_mark E = is_mark _ _ 1 216 171 172 refl refl refl (λ same. absurd (omega arith)) (record { no_digit = refl; no_other = refl })
class_mark F = is_mark _ _ 0 45 46 226 refl refl refl (λ same. absurd (omega arith)) (record { no_digit = refl; no_other = refl })
class_mark G = is_mark _ _ 0 43 44 226 refl refl refl (λ same. absurd (omega arith)) (record { no_digit = refl; no_other = refl })
class_mark H = is_mark _ _ 0 45 46 194 refl refl refl (λ same. absurd (omega arith)) (record { no_digit = refl; no_other = refl })

-- and at each place of the table
entry_mark : (place : ℕ) → place < LEN → IsMark (entry place).dec (entry place).sep
entry_mark place within = subst (λ (e : Entry). IsMark e.dec e.sep) (sym (entry-member place within)) (class_mark (member place).class)

-- so each locale marks decimals
pub locale_mark : (locale : ℕ) → locale < LEN → MarksDecimals (locale_data locale)
locale_mark locale within =
    let f = locale_data locale in
    let well = entry_is_well_formed locale within in
    let mark = entry_mark locale within in
    let alone : IsMark f.decimal [] = record { given = mark.given; plain = mark.plain; apart = mark.given } in
    record {
      unambiguous = unambiguous_from_common f (record { sign_given = well.min_given; sign = well.min_characters; separator = well.sep_characters });
      mark = of_printed (IsMark f.decimal) alone f.grouping f.separator mark;
    }
