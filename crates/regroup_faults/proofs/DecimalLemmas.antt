-- The definition of the decimal for which a text is canonical is what strict parsing returns.
use Rattle.std.proofs.lemmas.List.{drop_more, length-drop}
use Rattle.std.proofs.Common.{Decides, IsUtf8, List, None, Option, Some, [], ap, arith, drop, false, inl, inr, length, refl, subst, sym, ℕ}
use Rattle.std.proofs.Common.{Err, Ok, Result, ◌+◌, ◌-◌, ◌<◌, ◌^◌, ◌∙◌, ◌≡◌, ◌≢◌, ◌≤◌}
use Rattle.std.proofs.lemmas.Bool.Decides.{Decides-and, Decides-like, Decides-ltb, Decides-not, Decides-or}
use Rattle.std.specs.Prelude.{FitsSigned, MatchOption, negsuc, pos, suc, zero, ℤ, ◌&&◌, ◌||◌}
use Rattle.num_format_decimal.specs.FixedPoint.{FixedPoint, fixed_point}
use Rattle.num_format.specs.Format.{FormatData, HasUtf8Texts}
use Rattle.num_format_decimal.specs.Parsing.{DecimalResult, IsDecimalCause, ParsesDecimal, IsCanonicalDecimal, IsNotCanonical, after_mark}
use Rattle.num_format_decimal.specs.Parsing.{unexpected_in_decimal}
use Rattle.num_format_decimal.specs.Parsing.{with_separators, without_separators}
use Rattle.num_format_decimal.specs.Marks.{IsPlainFormat, MarksDecimals}
use Rattle.num_format_parsing.specs.declared.error.StrictError.{StrictError}
use Rattle.num_format_decimal.specs.Text.{decimal_text}
use Rattle.std.proofs.lemmas.Bool.{both_ways, cases_Bool, false_from_ne_true, not-true, not_from_false}
use Rattle.num_format.specs.Reading.{denoted, text_digits}
use Rattle.num_format.specs.Readable.{fits_i128}
use Rattle.regroup_faults.specs.Decimals.{has_no_numeral, is_sign}
use Rattle.std.specs.Int.{w128}
use Rattle.std.specs.Result.{result_ok}
use Rattle.regroup_faults.specs.Decimals.{decimal_read, marks_decimals, canonical_value, canonical_below}
use Rattle.regroup_faults.specs.Messages.{why_in, why_left, why_refused}
use Rattle.regroup_faults.specs.declared.message.Why.TheVariants as why
use Rattle.std.proofs.lemmas.Bool.{and_parts}
use Rattle.std.proofs.lemmas.Slice.Eq.{bytes_eq-Decides}
use Rattle.std.specs.Str.{bytes_eq, is_utf8}
use Rattle.std.proofs.lemmas.Bool.{le-leb, leb-true}
use Rattle.std.proofs.lemmas.Str.{IsUtf8-from_is_utf8, is_utf8-from_IsUtf8}
use Rattle.std.specs.Prelude.{nat_le}
use Rattle.num_format.specs.Strict.{ungrouped}
use Rattle.num_format.specs.Grouped.{printed_separator}
use Rattle.num_format.specs.Strict.{HasNoNumeral}
use Rattle.num_format_decimal.specs.declared.decimal.TheConstants.{MAX_SCALE}
use Rattle.num_format_parsing.specs.declared.error.StrictError.TheVariants.{AmbiguousFormat, Misspelled, NoDigit, NotUtf8}
use Rattle.num_format_parsing.specs.declared.error.StrictError.TheVariants.{OutOfRange, TooManyDecimals, Unexpected}
use Rattle.num_format_decimal.proofs.MarkLemmas.{denoted-decimal, plain-from_marks, canonical_once, tells-canonical_decimal}

-- the tests of symbols and units
no_numeral-Decides : (t : List ℕ) → Decides (has_no_numeral t) (HasNoNumeral t)
no_numeral-Decides t =
    Decides-like _ (λ none. record { no_digit = none.0; no_other = none.1 }) (λ none. (none.no_digit, none.no_other))
    (Decides-and _ _ (bytes_eq-Decides (text_digits t) []) (not-true _, not_from_false _))

sign-Decides : (t : List ℕ) → Decides (is_sign t) (¬ (t ≡ []) × HasNoNumeral t)
sign-Decides t = Decides-and _ _ (Decides-not _ (bytes_eq-Decides t [])) (no_numeral-Decides t)

pub fits-Decides : (z : ℤ) → Decides (fits_i128 z) (FitsSigned w128 z)
fits-Decides (pos n) = Decides-like _ (λ h. record { sfits = h }) (λ h. h.sfits) (Decides-ltb n (2 ^ 127))
fits-Decides (negsuc n) = Decides-like _ (λ h. record { sfits = h }) (λ h. h.sfits) (Decides-ltb n (2 ^ 127))

module _ (f : FormatData) (utf8 : HasUtf8Texts f) where
  pub plain-marks : MarksDecimals f → IsPlainFormat f
  plain-marks marks = plain-from_marks f utf8.minus_sign utf8.separator utf8.decimal marks

  -- the test of a format
  pub marks-Decides : Decides (marks_decimals f) (MarksDecimals f)
  unfolding marks_decimals
  marks-Decides =
      let separator = printed_separator f.grouping f.separator in
      Decides-like _
      (λ h. record {
        unambiguous = record { sign_given = h.0.0; sign = h.0.1; separator = h.1.0 };
        mark = record { given = h.1.1.0.0; plain = h.1.1.0.1; apart = h.1.1.1 };
      })
      (λ marks.
      let plain = marks.unambiguous in
      let mark = marks.mark in
      ((plain.sign_given, plain.sign), (plain.separator, ((mark.given, mark.plain), mark.apart))))
      (Decides-and _ _ (sign-Decides f.minus_sign) (Decides-and _ _ (no_numeral-Decides separator)
      (Decides-and _ _ (sign-Decides f.decimal) (Decides-not _ (bytes_eq-Decides f.decimal separator)))))

  unmarked : ¬ (MarksDecimals f) → marks_decimals f ≡ false
  unmarked ambiguous = false_from_ne_true _ (λ yes. ambiguous (marks-Decides.0 yes))

  module _ (t : List ℕ) where
    canonical-Decides : (d : FixedPoint) → Decides (bytes_eq t (decimal_text f d) || bytes_eq t (decimal_text (ungrouped f) d))
        (IsCanonicalDecimal f t d)
    canonical-Decides d =
        Decides-like _ (λ either. elim either [ inl same ↦ with_separators same | inr same ↦ without_separators same ])
        (λ is_canonical. elim is_canonical [ with_separators same ↦ inl same | without_separators same ↦ inr same ])
        (Decides-or _ _ (bytes_eq-Decides t _) (bytes_eq-Decides t _))

    -- the text is canonical for a decimal of a scale below a bound, or none
    abbrev Found : ℕ → Option FixedPoint → Type 0
    Found n o = MatchOption o ((d : FixedPoint) → d.scale < n
        → ¬ (IsCanonicalDecimal f t d)) (λ d. (d.scale < n) × IsCanonicalDecimal f t d)

    module _ (marks : MarksDecimals f) where
      -- a text that is canonical for a decimal has its digits
      units : (d : FixedPoint) → IsCanonicalDecimal f t d → denoted f t ≡ d.units
      units d is_canonical = denoted-decimal f t d.units d.scale (tells-canonical_decimal f t d.units d.scale
          (plain-marks marks) is_canonical)

      found-next : (n : ℕ) → ¬ (IsCanonicalDecimal f t (fixed_point (denoted f t) n)) → (o : Option FixedPoint) → Found n o
          → Found (suc n) o
      found-next n not None none = λ d low is_canonical.
          let other : d.scale ≢ n =
          λ here. not (subst (IsCanonicalDecimal f t) (ap (fixed_point d.units) here
          ∙ ap (λ z. fixed_point z n) (sym (units d is_canonical))) is_canonical) in
          none d (omega (arith, other)) is_canonical
      found-next n not (Some d) hit = (let low = hit.0 in omega arith, hit.1)

      found : (n : ℕ) → Found n (canonical_below f t n)
      unfolding canonical_below
      found zero = λ d low is_canonical. absurd (omega arith)
      found (suc n) =
          let decides = canonical-Decides (fixed_point (denoted f t) n) in
          elim (cases_Bool (bytes_eq t (decimal_text f (fixed_point (denoted f t) n)) || bytes_eq t
          (decimal_text (ungrouped f) (fixed_point (denoted f t) n)))) [
            | inl is ↦ rw is (omega arith, decides.0 is)
            | inr other ↦ rw other (found-next n (λ is_canonical. both_ways _ other (decides.1 is_canonical)) _ (found n))
          ]

      canonical-some : (d : FixedPoint) → IsCanonicalDecimal f t d → d.scale ≤ MAX_SCALE → canonical_value f t ≡ Some d
      canonical-some d is_canonical bound = pick (canonical_value f t) (found (MAX_SCALE + 1))
        where
          pick : (o : Option FixedPoint) → Found (MAX_SCALE + 1) o → o ≡ Some d
          pick None missed = absurd (missed d (omega (arith, bound)) is_canonical)
          pick (Some e) hit = ap Some (canonical_once f t e d (plain-marks marks) hit.1 is_canonical)

      canonical-none : ((d : FixedPoint) → d.scale ≤ MAX_SCALE → ¬ (IsCanonicalDecimal f t d)) → canonical_value f t ≡ None
      canonical-none none = pick (canonical_value f t) (found (MAX_SCALE + 1))
        where
          pick : (o : Option FixedPoint) → Found (MAX_SCALE + 1) o → o ≡ None
          pick None missed = refl
          pick (Some d) hit = absurd (none d (let low = hit.0 in omega arith) hit.1)

    -- what strict parsing returns is the definition's decimal, and the text is UTF-8
    pub parsed-utf8 : (d : FixedPoint) → ParsesDecimal f t d → IsUtf8 t
    parsed-utf8 d parsed = (tells-canonical_decimal f t d.units d.scale (plain-marks parsed.unambiguous) parsed.canonical).utf8

    pub decimal_read-parsed : (d : FixedPoint) → ParsesDecimal f t d → decimal_read f t ≡ Some d
    unfolding decimal_read
    decimal_read-parsed d parsed =
        let marks = parsed.unambiguous in
        rw (marks-Decides.1 marks, ap fits_i128 (units marks d parsed.canonical) ∙ (fits-Decides d.units).1 parsed.fits)
        (canonical-some marks d parsed.canonical parsed.bound)

    -- and where it returns none, there is none
    pub decimal_read-none : ((d : FixedPoint) → ¬ (ParsesDecimal f t d)) → decimal_read f t ≡ None
    unfolding decimal_read
    decimal_read-none refused =
        elim (cases_Bool (marks_decimals f && fits_i128 (denoted f t))) [
          | inl both ↦
              let parts = and_parts (marks_decimals f) (fits_i128 (denoted f t)) both in
              let marks = marks-Decides.0 parts.0 in
              let fits = (fits-Decides (denoted f t)).0 parts.1 in
              rw both (canonical-none marks (λ d bound is_canonical. refused d (record {
                unambiguous = marks;
                canonical = is_canonical;
                bound = bound;
                fits = subst (FitsSigned w128) (units marks d is_canonical) fits;
              })))
          | inr not ↦ rw not refl
        ]

    pub decimal_read-is : (r : Result FixedPoint StrictError) → DecimalResult f t r → decimal_read f t ≡ result_ok r
    decimal_read-is (Ok d) result = decimal_read-parsed d ((result.decimal d).0 refl)
    decimal_read-is (Err e) result = decimal_read-none (λ d parsed. let is = (result.decimal d).1 parsed in absurd (cc is))

    -- the byte that strict parsing does not expect is that of the definition
    left-at : (at : ℕ) → at < length t → why_left f t (drop at t) ≡ why.Unexpected at
    left-at at inside =
        let same : length t - suc (length (drop (at + 1) t)) ≡ at = omega (arith, length-drop (at + 1) t) in
        rw (drop_more t at 0 inside) (ap why.Unexpected same)

    why-not_canonical : MarksDecimals f → IsNotCanonical f t → why_refused f t ≡ why_left f t (unexpected_in_decimal f t)
    unfolding why_refused
    why-not_canonical marks none = rw (marks-Decides.1 marks, is_utf8-from_IsUtf8 t none.utf8, canonical-none marks none.none) refl

    why-canonical : MarksDecimals f → (d : FixedPoint) → IsCanonicalDecimal f t d → d.scale ≤ MAX_SCALE → why_refused f t ≡ why.Unknown
    unfolding why_refused
    why-canonical marks d is_canonical bound =
        let utf8 = (tells-canonical_decimal f t d.units d.scale (plain-marks marks) is_canonical).utf8 in
        rw (marks-Decides.1 marks, is_utf8-from_IsUtf8 t utf8, canonical-some marks d is_canonical bound) refl

    -- a text with a digit
    some-digit : ¬ (text_digits t ≡ []) → bytes_eq (text_digits t) [] ≡ false
    some-digit some = false_from_ne_true _ (λ none. some ((bytes_eq-Decides (text_digits t) []).0 none))

    pub why-parsed : (d : FixedPoint) → ParsesDecimal f t d → why_refused f t ≡ why.Unknown
    why-parsed d parsed = why-canonical parsed.unambiguous d parsed.canonical parsed.bound

    pub why-is : (e : StrictError) → IsDecimalCause f t e → why_refused f t ≡ why_in e
    unfolding why_refused
    why-is AmbiguousFormat cause = rw (unmarked cause) refl
    why-is NotUtf8 cause = rw (marks-Decides.1 cause.0, false_from_ne_true (is_utf8 t) (λ yes. cause.1 (IsUtf8-from_is_utf8 t yes))) refl
    why-is (Unexpected at) cause = why-not_canonical cause.0 cause.1.is_not_canonical ∙ ap (why_left f t) cause.1.rest
        ∙ left-at at cause.1.inside
    why-is NoDigit cause = why-not_canonical cause.0 cause.1.expected.is_not_canonical ∙ ap (why_left f t) cause.1.expected.rest
        ∙ rw cause.1.fault refl
    why-is TooManyDecimals cause =
        let many : nat_le (length (after_mark f t)) MAX_SCALE ≡ false =
        false_from_ne_true _ (λ few. omega (arith, leb-true _ _ few, cause.1.fault.1)) in
        why-not_canonical cause.0 cause.1.expected.is_not_canonical ∙ ap (why_left f t) cause.1.expected.rest
        ∙ rw (some-digit cause.1.fault.0, many) refl
    why-is Misspelled cause =
        why-not_canonical cause.0 cause.1.expected.is_not_canonical ∙ ap (why_left f t) cause.1.expected.rest
        ∙ rw (some-digit cause.1.fault.0, le-leb _ _ cause.1.fault.1) refl
    why-is OutOfRange cause = why-canonical cause.0 cause.1.decimal cause.1.canonical cause.1.bound
