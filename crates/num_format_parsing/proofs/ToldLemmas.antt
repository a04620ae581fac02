-- A text that is canonical for a number denotes it, and is accepted.
use Rattle.std.proofs.Common.{◌≡◌, ℕ, suc, ◌+◌, ◌^◌, ◌<◌, ◌≤◌, ◌⊎◌, inl, inr, Bool, true, false, List, length, refl, ap, ◌∙◌, sym, arith}
use Rattle.std.proofs.Common.{subst, ℤ, pos, negsuc, unsigned_abs, Option, Some, None, IsUtf8}
use Rattle.std.specs.Prelude.{if◌then◌else◌, ◌≤ℤ◌, MatchOption}
use Rattle.std.specs.Int.{is_negative}
use Rattle.std.specs.Int.Digits.{number_from_digits}
use Rattle.std.specs.List.{list_any}
use Rattle.std.specs.Str.{chars}
use Rattle.std.proofs.lemmas.Bool.{both_ways, cases_Bool}
use Rattle.num_format_text.specs.Format.{FormatData}
use Rattle.num_format_int.specs.Digits.{digits}
use Rattle.num_format_int.specs.Kind.{Kind, IsSignedValueOf, IsValueOf, longest}
use Rattle.num_format_int.proofs.DigitLemmas.{digits_given, length-digits-gt, length-digits-le, number_from_digits-digits}
use Rattle.num_format_parsing.specs.Parts.{IsCanonicalReading}
use Rattle.num_format_parsing.specs.Reading.{denoted, text_digits, is_negative_text, is_other_numeral, magnitude_of, signed_number, Refused}
use Rattle.num_format_parsing.specs.Reading.{no_digit, other_numeral, too_many_digits, no_value, ParsesBytes}
use Rattle.num_format_parsing.specs.Shapes.{HasPlainSymbols}
use Rattle.num_format_parsing.specs.Strict.{IsCanonical}
use Rattle.num_format_parsing.specs.declared.reading.Reading.TheVariants.{Number, TooLarge}
use Rattle.num_format_parsing.proofs.CauseLemmas.{above_low, below_high, sign-kind}
use Rattle.num_format_parsing.proofs.CanonicalLemmas.{text_digits-canonical, is_negative-pos, no_other-canonical, sign-told}
use Rattle.num_format_parsing.proofs.CanonicalLemmas.{signed_number-unsigned_abs, text-canonical}

-- a text that tells z: its digits are the digits of z, no other numeral is among them, and it is negative exactly if z is
pub record Tells (f : FormatData) (z : ℤ) (text : List ℕ) : Type 0 where
  pub same_digits : text_digits text ≡ digits (unsigned_abs z)
  pub plain : list_any is_other_numeral (chars text) ≡ false
  pub sign : is_negative_text f text ≡ is_negative z

-- as one does that is canonical for z
pub tells-canonical : (f : FormatData) (z : ℤ) (text : List ℕ) → HasPlainSymbols f → IsCanonical f text z → Tells f z text
tells-canonical f z text symbols is_canonical = record {
  same_digits = text_digits-canonical f text z symbols is_canonical;
  plain = (no_other-canonical f text z symbols is_canonical).plain;
  sign = sign-told f text z symbols (text-canonical f text z is_canonical);
}

-- it denotes z
pub tells-same : (f : FormatData) (z : ℤ) (text : List ℕ) → Tells f z text → denoted f text ≡ z
tells-same f z text tells =
    ap (λ b. signed_number b (magnitude_of text)) tells.sign
    ∙ ap (signed_number (is_negative z)) (ap (number_from_digits 10) tells.same_digits ∙ number_from_digits-digits (unsigned_abs z))
    ∙ signed_number-unsigned_abs z

-- a smaller number has no more digits
length-digits-mono : (n m : ℕ) → n ≤ m → length (digits n) ≤ length (digits m)
length-digits-mono n m less =
    let k = length (digits m) in
    let either : (10 ^ k ≤ m) ⊎ (m < 10 ^ k) = grind arith in
    elim either [
      | inl large ↦ absurd (omega (arith, length-digits-gt k m large))
      | inr small ↦ length-digits-le k n (digits_given m) (omega (arith, small))
    ]

-- a kind allows as many digits as its longest value has, which is the lowest where there are negative ones
pub record AllowsLongest (k : Kind) : Type 0 where
  pub limit : k.limit ≡ longest k
  pub low : k.has_negative ≡ true → unsigned_abs k.high ≤ unsigned_abs k.low
  pub unsigned : k.has_negative ≡ false → pos 0 ≤ℤ k.low

few_digits : (k : Kind) (z : ℤ) → AllowsLongest k → IsValueOf k z → length (digits (unsigned_abs z)) + (if is_negative z then 1 else 0)
    ≤ k.limit
few_digits k (pos n) allows value =
    let most = below_high n k.high value.below in
    rw (is_negative-pos n) (elim (cases_Bool k.has_negative) [
      | inl signed ↦ (let limit : k.limit ≡ suc (length (digits (unsigned_abs k.low))) = rw signed at allows.limit
          in omega (arith, limit, allows.low signed, length-digits-mono n (unsigned_abs k.low) (omega (arith, most, allows.low signed))))
      | inr unsigned ↦ (let limit : k.limit ≡ length (digits (unsigned_abs k.high)) = rw unsigned at allows.limit
          in omega (arith, limit, length-digits-mono n (unsigned_abs k.high) most))
    ])
few_digits k (negsuc n) allows value =
    let limit : k.limit ≡ suc (length (digits (unsigned_abs k.low))) =
    rw (sign-kind k (negsuc n) allows.unsigned value refl) at allows.limit in
    omega (arith, limit, length-digits-mono (suc n) (unsigned_abs k.low) (above_low n k.low value.above))

-- and it is accepted, if z is a value
pub tells-accepted : (k : Kind) (f : FormatData) (z : ℤ) (text : List ℕ) → AllowsLongest k → IsValueOf k z → Tells f z text
    → ¬ (Refused k f text)
tells-accepted k f z text allows value tells refused =
    let long = ap length tells.same_digits in
    elim refused [
      | no_digit none ↦ omega (arith, digits_given (unsigned_abs z), long, ap length none)
      | other_numeral some ↦ both_ways _ tells.plain some
      | too_many_digits many ↦
          let sign = ap {B = ℕ} (λ b. if b then 1 else 0) tells.sign in
          omega (arith, few_digits k z allows value, many, long, sign)
      | no_value wrong ↦ wrong (record {
        sign = λ negative. sign-kind k z allows.unsigned value (sym tells.sign ∙ negative);
        value = subst (IsValueOf k) (sym (tells-same f z text tells)) value;
      })
    ]

-- so a value made of the sign and the absolute value for which a text is canonical is the number that it denotes
pub denotes : {X : Type 0} (k : Kind) (value : X → ℤ) (f : FormatData) (t : List ℕ) (negative : Bool) (n : ℕ) (r : Option X)
    → AllowsLongest k → IsCanonicalReading k f t negative (Number n) →
    MatchOption r (¬ (IsSignedValueOf k negative n)) (λ x. IsSignedValueOf k negative n × (value x ≡ signed_number negative n)) →
    ParsesBytes k value f t r
denotes k value f t negative n None allows (symbols, tested, is_canonical) made =
    let same = tells-same f (signed_number negative n) t (tells-canonical f (signed_number negative n) t symbols is_canonical) in
    inr (no_value (λ signed. made (record {
      sign = λ minus. signed.sign (sym tested ∙ minus);
      value = subst (IsValueOf k) same signed.value;
    })))
denotes k value f t negative n (Some x) allows (symbols, tested, is_canonical) made =
    let tells = tells-canonical f (signed_number negative n) t symbols is_canonical in (
      (no_other-canonical f t (signed_number negative n) symbols is_canonical).utf8,
      made.1 ∙ sym (tells-same f (signed_number negative n) t tells),
      tells-accepted k f (signed_number negative n) t allows made.0.value tells,
    )

-- and a text that is canonical for a number that is no value is refused
pub refuses-large : (k : Kind) (f : FormatData) (t : List ℕ) (negative : Bool) → IsCanonicalReading k f t negative TooLarge
    → (¬ (IsUtf8 t)) ⊎ Refused k f t
refuses-large k f t negative (symbols, tested, (n, wrong, is_canonical)) =
    let same = tells-same f (signed_number negative n) t (tells-canonical f (signed_number negative n) t symbols is_canonical) in
    inr (no_value (λ signed. wrong (subst (IsValueOf k) same signed.value)))
