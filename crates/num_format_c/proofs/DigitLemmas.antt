-- The digits of structs, and texts in the digits 0 to 9.
use Rattle.std.proofs.Common.{◌≡◌, ℕ, ℤ, pos, List, Some, arith, length, ◌∙◌, ap, sym, subst, Bool, false}
use Rattle.std.proofs.lemmas.Bool.{eqb-true}
use Rattle.std.proofs.lemmas.Bool.Decides.{nat_tests}
use Rattle.std.specs.Option.{is_some}
use Rattle.std.specs.Prelude.{◌==◌, true, unwrap_or}
use mathlib.Core.Path.{fun_ext}
use Rattle.num_format.specs.Format.{FormatData}
use Rattle.num_format_digits.specs.Digits.{in_digits, set_numbered}
use Rattle.num_format_digits.proofs.SetLemmas.{latin_first}
use Rattle.num_format_digits.proofs.TextLemmas.{in_latin}
use Rattle.num_format_c.specs.Calls.{PrintsText, ReturnsLength, Writes}
use Rattle.num_format_c.specs.Columns.{rows_in}
use Rattle.num_format_c.specs.FormatRef.{IsFormatIn, IsFormatOf, digits_of, format_of}
use Rattle.num_format_c.specs.declared.format.NumFormat.{NumFormat}

module _ {zero : ℕ} {is_latin : Bool} (told : is_latin ≡ (zero == 48)) where
  -- digits are 0 to 9, or others
  pub latin : is_latin ≡ true → zero ≡ 48
  latin test = eqb-true zero 48 (sym told ∙ test)

  pub others : is_latin ≡ false → ¬ (zero ≡ 48)
  others test same = grind (arith, nat_tests, told, test, same)

-- the texts of rows in 0 to 9 are as they are
pub latin_rows : (text : ℕ → List ℕ) {zero : ℕ} → zero ≡ 48 → rows_in zero text ≡ text
latin_rows text same = fun_ext (λ k. ap (λ y. rows_in y text k) same ∙ in_latin (text k))

module _ {f : FormatData} {s : NumFormat} (is : IsFormatOf f s) where
  numbered : set_numbered s.digits ≡ Some 48
  numbered = ap set_numbered is.has_latin.1 ∙ latin_first

  -- the format of a struct whose digits are 0 to 9 is one in their zero
  pub format_in : IsFormatIn f 48 s
  format_in = record {
    has_format = (is.has_latin.0, ap is_some numbered);
    digits = sym (ap (λ o. unwrap_or o 48) numbered);
    format = is.format;
  }

  -- a text under it is as it is
  latin_text : (text : FormatData → List ℕ) → text f ≡ in_digits (digits_of s) (text (format_of s))
  latin_text text = ap text is.format ∙ sym (in_latin (text (format_of s))) ∙ ap (λ y. in_digits y (text (format_of s))) format_in.digits

  pub prints_latin : (text : FormatData → List ℕ) {old new : List ℕ} {result : ℤ} → Writes (text f) old new result
      → PrintsText s text old new result
  prints_latin text {old} {new} {result} written = record {
    bad_format = λ none. absurd (none format_in.has_format);
    printed = λ _. subst (λ t. Writes t old new result) (latin_text text) written;
  }

  pub returns_latin : (text : FormatData → List ℕ) {result : ℤ} → result ≡ pos (length (text f)) → ReturnsLength s text result
  returns_latin text same = record {
    bad_format = λ none. absurd (none format_in.has_format);
    size = λ _. same ∙ ap (λ t. pos (length t)) (latin_text text);
  }
