-- Texts in the digits of a set.
use Rattle.std.proofs.Common.{IsUtf8, List, None, Some, [], arith, inl, inr, length, refl, true, ap, ℕ, ◌+◌, ◌-◌, ◌∙◌, ◌≡◌, ◌≤◌}
use Rattle.std.proofs.lemmas.Bool.{and_from, and_parts, cases_Bool, eqb-true, false_from_ne_true, lt-ltb, ltb-true, ne_eqb}
use Rattle.std.proofs.lemmas.Bool.Decides.{nat_tests}
use Rattle.std.proofs.lemmas.Str.{scalars-chars}
use Rattle.std.specs.Char.{IsScalar}
use Rattle.std.specs.Prelude.{Option, false, map, nat_lt, ◌∷◌, ◌==◌}
use Rattle.std.specs.Str.{all_scalars, chars}
use Rattle.num_format_decimal.specs.declared.buffer.TheConstants.{MAX_DECIMAL_LEN}
use Rattle.num_format_digits.specs.Digits.{HasOneSet, ascii_of, in_digits, is_digit_of, plain_char}
use Rattle.num_format_digits.specs.Parsing.{IsTextCause}
use Rattle.num_format_digits.specs.declared.parsing.DigitsError.{DigitsError}
use Rattle.num_format_digits.specs.declared.parsing.DigitsError.TheVariants.{Number, OtherNumeral, TooLong}
use Rattle.num_format.specs.Format.{FormatData}
use Rattle.num_format_decimal.specs.FixedPoint.{FixedPoint}
use Rattle.num_format_digits.proofs.TextLemmas.{in_latin}
use Rattle.regroup_faults.specs.Notation.{NotationData, ascii_in, decimal_in}

-- with 0 to 9 a text is UTF-8 still
plain-scalars : (z : ℕ) (cs : List ℕ) → all_scalars cs ≡ true → all_scalars (map (plain_char z) cs) ≡ true
plain-scalars z [] all = refl
plain-scalars z (c ∷ cs) all =
    let both = and_parts _ _ all in
    and_from _ _ (elim (cases_Bool (is_digit_of z c)) [
      | inl digit ↦ (let same : IsScalar (48 + (c - z)) = grind (arith, nat_tests, digit) in rw digit same)
      | inr other ↦ rw other both.0
    ]) (plain-scalars z cs both.1)

pub ascii-utf8 : (z : ℕ) (t : List ℕ) → IsUtf8 t → IsUtf8 (ascii_of z t)
ascii-utf8 z t utf8 = (map (plain_char z) (chars t), (plain-scalars z (chars t) (scalars-chars t utf8), refl))

module _ (z : ℕ) (t : List ℕ) (other : ¬ (z ≡ 48)) where
  is_no_latin : (z == 48) ≡ false
  is_no_latin = ne_eqb z 48 other

  -- a text that is not refused has its text with 0 to 9, and any other has none
  pub ascii-some : HasOneSet z t → length (ascii_of z t) ≤ MAX_DECIMAL_LEN → ascii_in z t ≡ Some (ascii_of z t)
  ascii-some one fits =
      let few : nat_lt MAX_DECIMAL_LEN (length (ascii_of z t)) ≡ false =
      false_from_ne_true _ (λ many. omega (arith, ltb-true _ _ many, fits)) in
      rw (is_no_latin, one, few) refl

  pub ascii-none : {E : Type 0} → (e : DigitsError E) → IsTextCause z t e → ascii_in z t ≡ None
  ascii-none (OtherNumeral at) cause = rw (is_no_latin, cause) refl
  ascii-none TooLong cause = rw (is_no_latin, cause.0, lt-ltb _ _ cause.1) refl
  ascii-none (Number e) cause = absurd cause

-- in latn a text is as it is
pub latin_text : (z : ℕ) (t : List ℕ) → (z == 48) ≡ true → in_digits z t ≡ t
latin_text z t is = ap (λ y. in_digits y t) (eqb-true z 48 is) ∙ in_latin t

pub latin_read : (read : FormatData → List ℕ → Option FixedPoint) (from : NotationData) (text : List ℕ) → (from.digits == 48) ≡ true
    → decimal_in read from text ≡ read from.format text
latin_read read from text is = rw is refl
