-- The symbols of a format that is not ambiguous.
use Rattle.std.proofs.Common.{◌≡◌, ℕ, ◌<◌, inl, inr, Bool, true, false, not, get_or, List, [], ◌∷◌, length, refl, ap, ◌∙◌, sym, arith}
use Rattle.std.proofs.Common.{IsUtf8}
use Rattle.std.specs.Prelude.{◌&&◌, ◌↔◌, Contains, IsTrue}
use Rattle.std.specs.Char.{is_ascii, is_ascii_digit}
use Rattle.std.specs.List.{list_all, list_any}
use Rattle.std.specs.Cmp.{first_so, second_so}
use Rattle.std.proofs.lemmas.Bool.{both_ways, cases_Bool, not-true, or_from, or_left}
use Rattle.std.proofs.lemmas.List.Elements.{All-contains}
use Rattle.std.proofs.lemmas.List.Sums.{AllPass-from_list_all}
use lib.Utf8.{encode}
use Rattle.std.specs.Str.{chars}
use Rattle.num_format_text.specs.Format.{FormatData}
use Rattle.num_format_int.specs.Grouped.{printed_separator}
use Rattle.num_format_parsing.specs.Reading.{is_other_numeral}
use Rattle.num_format_parsing.specs.Shapes.{HasPlainSymbols}
use Rattle.num_format_parsing.specs.Strict.{HasNoNumeral, IsUnambiguous}
use Rattle.num_format_parsing.specs.Symbols.{locale_separators, locale_signs}
use Rattle.num_format_parsing.proofs.DigitLemmas.{text_digits-bytes, text_digits-none, text_digits-some}
use Rattle.num_format_parsing.proofs.NumberLemmas.{no_other-bytes, one-byte}
use Rattle.num_format_parsing.proofs.ReadingLemmas.{ucd_category}

-- a text of bytes that are no digits, and of characters that are no other numerals, has no numeral
pub no_numeral : (t : List ℕ) → IsUtf8 t → list_any is_ascii_digit t ≡ false → list_any is_other_numeral (chars t) ≡ false → HasNoNumeral t
no_numeral t utf8 none other = record { no_digit = text_digits-bytes t utf8 ∙ text_digits-none t none; no_other = other }

-- and one with a digit has one
pub some_digit : (t : List ℕ) → IsUtf8 t → list_any is_ascii_digit t ≡ true → ¬ (HasNoNumeral t)
some_digit t utf8 some plain = text_digits-some t some (sym (text_digits-bytes t utf8) ∙ plain.no_digit)

-- so the tests tell whether a text has a numeral
pub decided : (t : List ℕ) (b : Bool) → IsUtf8 t → list_any is_ascii_digit t ≡ false → b ≡ list_any is_other_numeral (chars t)
    → IsTrue (not b) ↔ HasNoNumeral t
decided t true utf8 none same = (λ wrong. absurd (both_ways false refl wrong), λ plain. absurd (both_ways _ plain.no_other (sym same)))
decided t false utf8 none same = (λ yes. no_numeral t utf8 none (sym same), λ plain. refl)

-- a text of one byte of ASCII has one exactly if the byte is a digit
pub decided-byte : (t : List ℕ) (b : Bool) → IsUtf8 t → length t ≡ 1 → list_all is_ascii t ≡ true → b ≡ is_ascii_digit (get_or t 0 0)
    → IsTrue (not b) ↔ HasNoNumeral t
decided-byte t b utf8 one ascii same =
    let digits = ap (list_any is_ascii_digit) (one-byte t one) in
    elim (cases_Bool b) [
      | inl digit
          ↦ (
            λ yes. absurd (both_ways _ (ap not digit) yes),
            λ plain. absurd
                (some_digit t utf8 (digits ∙ or_left _ false (sym same ∙ digit)) plain),
          )
      | inr none ↦ (
        λ yes. no_numeral t utf8 (digits ∙ or_from _ false (sym same ∙ none) refl) (no_other-bytes t ascii),
        λ plain. ap not none,
      )
    ]

-- a text has no numeral, as a test
abbrev pub is_bare : List ℕ → Bool
is_bare t = not (list_any is_ascii_digit (chars t)) && not (list_any is_other_numeral (chars t))

pub bare : (t : List ℕ) → is_bare t ≡ true → HasNoNumeral t
bare t passed = record {
  no_digit = text_digits-none (chars t) (not-true _ (first_so _ _ passed));
  no_other = not-true _ (second_so _ _ passed);
}

-- an element of a list, each of which passes a test
pub of_all : (p : List ℕ → Bool) (xs : List (List ℕ)) (x : List ℕ) → list_all p xs ≡ true → Contains xs x → p x ≡ true
of_all p xs x all among = All-contains (λ x. p x ≡ true) xs x (AllPass-from_list_all p xs all) among

-- no symbol of a locale has one
signs_bare : list_all (λ t. is_bare t) locale_signs ≡ true
unfolding chars encode ucd_category
signs_bare = refl

separators_bare : list_all (λ t. is_bare t) locale_separators ≡ true
unfolding chars encode ucd_category
separators_bare = refl

pub locale-sign : (t : List ℕ) → Contains locale_signs t → HasNoNumeral t
locale-sign t is = bare t (of_all (λ t. is_bare t) locale_signs t signs_bare is)

pub locale-separator : (t : List ℕ) → Contains locale_separators t → HasNoNumeral t
locale-separator t is = bare t (of_all (λ t. is_bare t) locale_separators t separators_bare is)

-- a list that is not empty has an element
pub some_first : (t : List ℕ) → ¬ (t ≡ []) → 0 < length t
some_first [] other = absurd (other refl)
some_first (b ∷ t) other = omega arith

-- the symbols as bytes
pub plain-symbols : (f : FormatData) → IsUnambiguous f → IsUtf8 f.minus_sign → IsUtf8 (printed_separator f.grouping f.separator)
    → HasPlainSymbols f
plain-symbols f plain sign printed = record {
  unambiguous = plain;
  sign_utf8 = sign;
  sign_some = some_first f.minus_sign plain.sign_given;
  sign = sym (text_digits-bytes f.minus_sign sign) ∙ plain.sign.no_digit;
  separator_utf8 = printed;
  separator = sym (text_digits-bytes (printed_separator f.grouping f.separator) printed) ∙ plain.separator.no_digit;
}
