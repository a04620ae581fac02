-- A format is typable where tests of its symbols pass, and they do for those that most formats have.
use Rattle.std.proofs.Common.{◌≡◌, ℕ, ◌≤◌, List, Bool, true, ◌&&◌, not, length, refl, ap, arith, nat_le}
use Rattle.std.specs.Prelude.{Contains, codes}
use Rattle.std.specs.List.{list_all}
use Rattle.std.specs.Cmp.{first_so, second_so}
use Rattle.std.specs.Str.{chars, is_utf8}
use Rattle.std.proofs.lemmas.Bool.{leb-true, not-true}
use Rattle.std.proofs.lemmas.Str.{IsUtf8-from_is_utf8}
use lib.Utf8.{encode}
use Rattle.num_format_text.specs.Format.{FormatData}
use Rattle.num_format_parsing.specs.Strict.{IsUnambiguous}
use Rattle.num_format_parsing.specs.Symbols.{locale_signs}
use Rattle.num_format_parsing.proofs.CommonLemmas.{of_printed}
use Rattle.num_format_parsing.proofs.ReadingLemmas.{ucd_category}
use Rattle.num_format_parsing.proofs.SymbolLemmas.{bare, is_bare, locale-sign, of_all}
use Rattle.num_format_typed.specs.Classes.{is_of}
use Rattle.num_format_typed.specs.Trimming.{without_ends}
use Rattle.num_format_typed.specs.Typed.{HasSymbols, HasUsualSymbols, IsTypable, begins_with, core_of, has_shared, is_own, separator_of}
use Rattle.num_format_typed.specs.Typed.{usual_marks, usual_separators}
use Rattle.num_format_typed.specs.declared.classes.Class.TheVariants.{Direction, End, Plus}

-- what is asked of symbols, as a test; `core` is the minus sign without marks of direction at its ends
abbrev pub passes : (separator mark core : List ℕ) → Bool
passes separator mark core =
    (is_own separator mark separator && (is_own separator mark mark && not (has_shared separator mark core)))
    && (nat_le 1 (length core) && (not (begins_with End core) && not (begins_with Plus core)))

pub typable : (f : FormatData) → IsUnambiguous f → passes (separator_of f) f.decimal (core_of f) ≡ true → IsTypable f
typable f unambiguous passed =
    let symbols = first_so _ _ passed in
    let sign = second_so _ _ passed in
    record {
      unambiguous = unambiguous;
      separator = first_so _ _ symbols;
      mark = first_so _ _ (second_so _ _ symbols);
      apart = not-true _ (second_so _ _ (second_so _ _ symbols));
      given = λ none. let some : 1 ≤ length (core_of f) = leb-true _ _ (first_so _ _ sign) in absurd (omega (arith, ap length none));
      seen = not-true _ (first_so _ _ (second_so _ _ sign));
      no_plus = not-true _ (second_so _ _ (second_so _ _ sign));
    }

-- each usual sign passes with each usual mark and each usual separator
abbrev passes_with : (sign mark separator : List ℕ) → Bool
passes_with sign mark separator = passes separator mark (without_ends (is_of Direction) sign)

abbrev passes_under : (sign mark : List ℕ) → Bool
passes_under sign mark = list_all (λ s. passes_with sign mark s) usual_separators

abbrev sign_passes : (sign : List ℕ) → Bool
sign_passes sign = list_all (λ d. passes_under sign d) usual_marks

usual_pass : list_all (λ m. sign_passes m) locale_signs ≡ true
unfolding chars encode
usual_pass = refl

-- a hyphen has no marks of direction
pub core-hyphen : without_ends (is_of Direction) (codes "-") ≡ codes "-"
unfolding chars encode
core-hyphen = refl

-- no sign of a locale is empty, and no usual separator has a numeral
signs_given : list_all (λ m. nat_le 1 (length m)) locale_signs ≡ true
signs_given = refl

separators_bare : list_all (λ s. is_bare s) usual_separators ≡ true
unfolding chars encode ucd_category
separators_bare = refl

-- each usual symbol is UTF-8, and no longer than there is room for
abbrev fits : List ℕ → Bool
fits s = is_utf8 s && nat_le (length s) 8

signs_fit : list_all (λ s. fits s) locale_signs ≡ true
unfolding chars is_utf8 encode
signs_fit = refl

marks_fit : list_all (λ s. fits s) usual_marks ≡ true
unfolding chars is_utf8 encode
marks_fit = refl

separators_fit : list_all (λ s. fits s) usual_separators ≡ true
unfolding chars is_utf8 encode
separators_fit = refl

-- so a format with usual symbols is neither ambiguous for strict parsing nor else
module _ (f : FormatData) (usual : HasUsualSymbols f) where
  printed : Contains usual_separators (separator_of f)
  printed = of_printed (Contains usual_separators) (9, omega arith, refl) f.grouping f.separator usual.separator

  pub usual-unambiguous : IsUnambiguous f
  usual-unambiguous =
      record {
        sign_given = λ none.
            let passed = of_all (λ m. nat_le 1 (length m)) locale_signs f.minus_sign signs_given usual.sign in
            let some : 1 ≤ length f.minus_sign = leb-true _ _ passed in
            absurd (omega (arith, ap length none));
        sign = locale-sign f.minus_sign usual.sign;
        separator = bare (separator_of f) (of_all (λ s. is_bare s) usual_separators (separator_of f) separators_bare printed);
      }

  pub usual-typable : IsTypable f
  usual-typable =
      let of_sign = of_all (λ m. sign_passes m) locale_signs f.minus_sign usual_pass usual.sign in
      let of_mark = of_all (λ d. passes_under f.minus_sign d) usual_marks f.decimal of_sign usual.mark in
      typable f usual-unambiguous (of_all (λ s. passes_with f.minus_sign f.decimal s) usual_separators (separator_of f) of_mark printed)

  pub usual-symbols : HasSymbols f
  usual-symbols =
      let sign = of_all (λ s. fits s) locale_signs f.minus_sign signs_fit usual.sign in
      let mark = of_all (λ s. fits s) usual_marks f.decimal marks_fit usual.mark in
      let separator = of_all (λ s. fits s) usual_separators f.separator separators_fit usual.separator in
      record {
        sign = IsUtf8-from_is_utf8 f.minus_sign (first_so _ _ sign);
        mark = IsUtf8-from_is_utf8 f.decimal (first_so _ _ mark);
        separator = IsUtf8-from_is_utf8 f.separator (first_so _ _ separator);
        sign_len = leb-true _ _ (second_so _ _ sign);
        mark_len = leb-true _ _ (second_so _ _ mark);
        separator_len = leb-true _ _ (second_so _ _ separator);
      }
