use Rattle.std.proofs.Common.{◌≡◌, ℕ, ◌+◌, ◌<◌, ◌∙◌, inl, inr, false, List, [], IsUtf8, Option, Some, None, ap, arith, length, subst, sym}
use Rattle.std.proofs.Common.{ℤ}
use Rattle.std.specs.Prelude.{MatchOption, if◌then◌else◌, nat_eq}
use Rattle.std.specs.Int.Digits.{number_from_digits}
use Rattle.std.specs.List.{list_any, starts_with}
use Rattle.std.specs.Str.{chars, is_utf8}
use Rattle.std.proofs.lemmas.Bool.{both_ways, cases_Bool}
use Rattle.std.proofs.lemmas.List.{nil_from_length}
use Rattle.std.proofs.lemmas.Str.{IsUtf8-from_is_utf8, is_utf8-from_IsUtf8}
use Rattle.num_format_text.specs.Format.{FormatData}
use Rattle.num_format_int.specs.Kind.{Kind, signed_number}
use Rattle.num_format_parsing.specs.Reading.{IsSignedValueOf, ParsesBytes, denoted, text_digits, is_negative_text, is_other_numeral}
use Rattle.num_format_parsing.specs.Reading.{magnitude_of, no_digit, no_value, other_numeral, too_many_digits}
use Rattle.num_format_parsing.proofs.CauseLemmas.{past-bound}
use Rattle.num_format_parsing.proofs.DigitLemmas.{text_digits-bytes, text_digits-counted}
use Rattle.num_format_parsing.proofs.lenient.parse_any.Goals as goal
use Rattle.num_format_parsing.proofs.lenient.parse_any.Goals.{then-digit_count-eq0-via-then-digit_count-eq0}
use Rattle.num_format_parsing.proofs.lenient.parse_any.Goals.{then-digit_count-eq0-via-else-digit_count-eq0+then-not-is_utf8}

-- a value made of the sign and the number of a text is what the text denotes, if it has digits, not too many, and no other numeral
made-of : {X : Type 0} (k : Kind) (value : X → ℤ) (f : FormatData) (t : List ℕ) (r : Option X) → IsUtf8 t → ¬ (text_digits t ≡ [])
    → ¬ (k.limit < length (text_digits t) + (if is_negative_text f t then 1 else 0)) → list_any is_other_numeral (chars t) ≡ false →
    MatchOption r (¬ (IsSignedValueOf k (is_negative_text f t) (magnitude_of t)))
    (λ x. IsSignedValueOf k (is_negative_text f t) (magnitude_of t) × (value x ≡ denoted f t)) →
    ParsesBytes k value f t r
made-of k value f t None utf8 some few plain made = inr (no_value made)
made-of k value f t (Some x) utf8 some few plain made = (
  utf8,
  made.1,
  λ refused. elim refused [
    | no_digit none ↦ some none
    | other_numeral other ↦ both_ways _ plain other
    | too_many_digits many ↦ few many
    | no_value wrong ↦ wrong made.0
  ],
)

pub returns-then-digit_count-eq0 : goal.returns-then-digit_count-eq0
returns-then-digit_count-eq0 g c = λ f minus.
    let t = c.args.bytes.now in
    elim c.then-digit_count-eq0.branch [
      | then-digit_count-eq0-via-then-digit_count-eq0 w ↦ elim (cases_Bool (is_utf8 t)) [
        | inl valid ↦
            inr (no_digit (nil_from_length (text_digits t) (omega
            (arith, text_digits-counted t (IsUtf8-from_is_utf8 t valid), c.count_digits-digit_count.ensures, w.if-digit_count-eq0.true))))
        | inr other ↦ inl (λ utf8. both_ways _ other (is_utf8-from_IsUtf8 t utf8))
      ]
      | then-digit_count-eq0-via-else-digit_count-eq0+then-not-is_utf8 w ↦ inl
          (λ utf8. both_ways _ w.if-not-is_utf8.true (w.is_utf8.ensures.1 utf8))
    ]

pub returns-then-digit_count-most_digits : goal.returns-then-digit_count-most_digits
returns-then-digit_count-most_digits g c = λ f minus.
    let t = c.args.bytes.now in
    let counted = text_digits-counted t (c.is_utf8.ensures.0 c.if-not-is_utf8.false) in
    let tested : c.is_prefix-is_negative.result ≡ is_negative_text f t = c.is_prefix-is_negative.ensures
    ∙ ap (starts_with nat_eq t) (c.as_bytes.ensures.value ∙ minus) in
    let one = ap {B = ℕ} (λ b. if b then 1 else 0) tested in
    inr (too_many_digits (omega (
      arith,
      one,
      counted,
      c.count_digits-digit_count.ensures,
      c.most_digits.ensures,
      c.if-digit_count-most_digits.true,
    )))

pub returns-in_err-exact_number : goal.returns-in_err-exact_number
returns-in_err-exact_number g c = λ f minus.
    let t = c.args.bytes.now in
    let same = ap (number_from_digits 10) (text_digits-bytes t (c.is_utf8.ensures.0 c.if-not-is_utf8.false)) in
    rw c.from_residual.ensures
    (inr (no_value (λ signed. past-bound g.A.Accumulator.bound g.N.Sealed.kind (is_negative_text f t) (magnitude_of t) c.requires.within
    (omega (arith, same, c.in_err-exact_number.ensures)) signed.value)))

pub returns : goal.returns
returns g c = λ f minus.
    let t = c.args.bytes.now in
    let k = g.N.Sealed.kind in
    let utf8 = c.is_utf8.ensures.0 c.if-not-is_utf8.false in
    let counted = text_digits-counted t utf8 in
    let tested : c.is_prefix-is_negative.result ≡ is_negative_text f t = c.is_prefix-is_negative.ensures
    ∙ ap (starts_with nat_eq t) (c.as_bytes.ensures.value ∙ minus) in
    let one = ap {B = ℕ} (λ b. if b then 1 else 0) tested in
    let number : c.number-magnitude.result ≡ magnitude_of t = c.number-magnitude.ensures ∙ c.in_ok-exact_number.ensures
    ∙ ap (number_from_digits 10) (sym (text_digits-bytes t utf8)) in
    made-of k g.N.Sealed.value f t c.from_sign_and_magnitude.result utf8
    (λ none. c.if-digit_count-eq0.false (omega (arith, ap length none, counted, c.count_digits-digit_count.ensures)))
    (λ many. omega (
      arith,
      one,
      many,
      counted,
      c.count_digits-digit_count.ensures,
      c.most_digits.ensures,
      c.if-digit_count-most_digits.false,
    ))
    (subst (λ x. list_any is_other_numeral (chars x) ≡ false) c.from_utf8_unchecked.ensures
    (sym c.has_other_numeral.ensures ∙ c.if-has_other_numeral.false))
    (subst (λ n. MatchOption c.from_sign_and_magnitude.result (¬ (IsSignedValueOf k (is_negative_text f t) n))
    (λ x. IsSignedValueOf k (is_negative_text f t) n × (g.N.Sealed.value x ≡ signed_number (is_negative_text f t) n))) number
    (subst (λ b. MatchOption c.from_sign_and_magnitude.result (¬ (IsSignedValueOf k b c.number-magnitude.result))
    (λ x. IsSignedValueOf k b c.number-magnitude.result × (g.N.Sealed.value x ≡ signed_number b c.number-magnitude.result))) tested
    c.from_sign_and_magnitude.ensures.value))
