-- At most one cause holds of a text, and none of a text that is parsed.
use Rattle.std.proofs.Common.{◌≡◌, ℕ, ◌≤◌, List, length, drop, refl, ap, ◌∙◌, sym, arith, length-drop, subst, Ok, Err, IsUtf8, ◌+◌, inl}
use Rattle.std.proofs.Common.{inr, [], ◌∷◌, drop-drop, true}
use Rattle.std.specs.Prelude.{Result, MatchResult}
use Rattle.std.proofs.lemmas.List.{drop_all}
use Rattle.num_format_text.specs.Format.{FormatData}
use Rattle.num_format_decimal.specs.declared.decimal.TheConstants.{MAX_SCALE}
use Rattle.num_format_parsing.specs.declared.error.StrictError.{StrictError}
use Rattle.num_format_parsing.specs.declared.error.StrictError.TheVariants.{NotUtf8, Unexpected, NoDigit, TooManyDecimals, Misspelled}
use Rattle.num_format_parsing.specs.declared.error.StrictError.TheVariants.{OutOfRange}
use Rattle.num_format_decimal.specs.FixedPoint.{FixedPoint}
use Rattle.num_format_decimal.specs.Marks.{IsPlainFormat, MarksDecimals}
use Rattle.num_format_decimal.specs.Parsing.{DecimalResult, IsDecimalCause, IsExpectedDecimal, ParsesDecimal, IsCanonicalDecimal}
use Rattle.num_format_decimal.specs.Parsing.{unexpected_in_decimal, after_mark, DecimalStopsAt, IsNotCanonical}
use Rattle.num_format_decimal.specs.Values.{HasUnits}
use Rattle.num_format_decimal.proofs.MarkLemmas.{canonical_once, tells-canonical_decimal}
use Rattle.std.proofs.lemmas.Bool.{cases_Bool, cases_lt}
use Rattle.num_format_int.specs.Grouped.{printed_separator}
use Rattle.num_format_parsing.specs.Reading.{text_digits}
use Rattle.num_format_parsing.specs.Strict.{begins, sign_len, unexpected}
use Rattle.num_format_parsing.proofs.RefusalLemmas.{unread-place, utf8-or-not}
use Rattle.num_format_decimal.specs.declared.parser.Fault.{Fault}
use Rattle.num_format_decimal.specs.declared.parser.Fault.TheVariants.{TooLarge, NotCanonical}
use Rattle.num_format_decimal.specs.Shapes.{HasReading}
use Rattle.std.specs.List.{list_any}
use Rattle.std.specs.Char.{is_ascii_digit}
use Rattle.num_format_parsing.proofs.DigitLemmas.{text_digits-bytes, text_digits-some}

stops-not : (f : FormatData) (t : List ℕ) (a : ℕ) → DecimalStopsAt f t a → IsExpectedDecimal f t → ⊥
stops-not f t a stops expected = omega (arith, ap length (sym stops.rest ∙ expected.rest), length-drop a t, stops.inside)

stops-once : (f : FormatData) (t : List ℕ) (a b : ℕ) → DecimalStopsAt f t a → DecimalStopsAt f t b → a ≡ b
stops-once f t a b p q = omega (arith, ap length (sym p.rest ∙ q.rest), length-drop a t, length-drop b t, p.inside, q.inside)

pub expected_of : (f : FormatData) (t : List ℕ) (at : ℕ) → IsUtf8 t → ((d : FixedPoint) → d.scale ≤ MAX_SCALE
    → ¬ (IsCanonicalDecimal f t d))
    → unexpected_in_decimal f t ≡ drop at t → length t ≤ at → IsExpectedDecimal f t
expected_of f t at utf8 none rest all = record { is_not_canonical = record { utf8 = utf8; none = none }; rest = rest ∙ drop_all at t all }

pub some_digit : (t : List ℕ) → IsUtf8 t → list_any is_ascii_digit t ≡ true → ¬ (text_digits t ≡ [])
some_digit t utf8 any none = text_digits-some t any (sym (text_digits-bytes t utf8) ∙ none)

-- a text that is canonical for a decimal is UTF-8, and is refused only if its units are no `i128`
utf8-canonical : (f : FormatData) (t : List ℕ) (d : FixedPoint) → IsPlainFormat f → IsCanonicalDecimal f t d → IsUtf8 t
utf8-canonical f t d plain is_canonical = (tells-canonical_decimal f t d.units d.scale plain is_canonical).utf8

module _ (f : FormatData) (t : List ℕ) (plain : IsPlainFormat f) where
  canonical_cause : (d : FixedPoint) (e : StrictError) → IsCanonicalDecimal f t d → d.scale ≤ MAX_SCALE → IsDecimalCause f t e
      → (e ≡ OutOfRange) × ¬ (HasUnits d)
  canonical_cause d e is_canonical bound p =
      let utf8 = utf8-canonical f t d plain is_canonical in
      let large : e ≡ OutOfRange = grind arith in
      let cause = (rw large at p).1 in
      (large, λ fits. cause.wrong (subst HasUnits (canonical_once f t d cause.decimal plain is_canonical cause.canonical) fits))

  -- two causes of one refusal are the same
  other_cause : ((a : ℕ) → DecimalStopsAt f t a → IsExpectedDecimal f t → ⊥) → ((a b : ℕ) → DecimalStopsAt f t a → DecimalStopsAt f t b
      → a ≡ b) → (d e : StrictError) → ¬ (d ≡ OutOfRange) → ¬ (e ≡ OutOfRange) → IsDecimalCause f t d → IsDecimalCause f t e → d ≡ e
  other_cause not once d e first second p q = grind (arith, not, once)

  only_cause : (d e : StrictError) → IsDecimalCause f t d → IsDecimalCause f t e → d ≡ e
  only_cause OutOfRange e p q = sym (canonical_cause p.1.decimal e p.1.canonical p.1.bound q).0
  only_cause d OutOfRange p q = (canonical_cause q.1.decimal d q.1.canonical q.1.bound p).0
  only_cause d e p q = other_cause (stops-not f t) (stops-once f t) d e (λ same. cc) (λ same. cc) p q

  -- what is parsed, or refused for a cause, is what parsing returns
  pub result_judged : (r : Result FixedPoint StrictError) → MatchResult r (λ d. ParsesDecimal f t d) (λ e. IsDecimalCause f t e)
      → DecimalResult f t r
  result_judged (Ok a) judged = record {
    decimal = λ d. (
      (λ same. let one : a ≡ d = cc in subst (ParsesDecimal f t) one judged),
      (λ parses. ap Ok (canonical_once f t a d plain judged.canonical parses.canonical)),
    );
    refused = λ e. ((λ wrong. absurd (cc)), (λ cause. absurd ((canonical_cause a e judged.canonical judged.bound cause).1 judged.fits)));
  }
  result_judged (Err d) judged = record {
    decimal = λ a. ((λ wrong. absurd (cc)), (λ parses. absurd ((canonical_cause a d parses.canonical parses.bound judged).1 parses.fits)));
    refused = λ e. (
      (λ same. let error : d ≡ e = cc in subst (IsDecimalCause f t) error judged),
      (λ cause. ap Err (only_cause d e judged cause)),
    );
  }

-- what is left unread is the end of a text
unexpected-place : (f : FormatData) (t : List ℕ) → (n : ℕ) × (unexpected_in_decimal f t ≡ drop n t)
unexpected-place f t =
    let left = unread-place (printed_separator f.grouping f.separator) 0 (drop (sign_len f t) t) in
    let at = sign_len f t + left.0 in
    let whole : unexpected f t ≡ drop at t = left.1 ∙ drop-drop left.0 (sign_len f t) t in
    let long = length f.decimal in
    let rest = unread-place [] 0 (drop long (unexpected f t)) in
    elim (cases_Bool (begins f.decimal (unexpected f t))) [
      | inl begin ↦ (at + long + rest.0, rw begin (cc (rest.1, whole, drop-drop long at t, drop-drop rest.0 (at + long) t)))
      | inr other ↦ (at, rw other whole)
    ]

module _ (f : FormatData) (t : List ℕ) (marks : MarksDecimals f) (none : (d : FixedPoint) → d.scale ≤ MAX_SCALE
    → ¬ (IsCanonicalDecimal f t d)) where
  by_digits : IsExpectedDecimal f t → (ds : List ℕ) → text_digits t ≡ ds → (e : StrictError) × IsDecimalCause f t e
  by_digits expected [] empty = (NoDigit, (marks, record { expected = expected; fault = empty }))
  by_digits expected (d ∷ ds) some =
      let given : ¬ (text_digits t ≡ []) = λ empty. (let wrong = sym some ∙ empty in cc) in
      elim (cases_lt MAX_SCALE (length (after_mark f t))) [
        | inl many ↦ (TooManyDecimals, (marks, record { expected = expected; fault = (given, many) }))
        | inr few ↦ (Misspelled, (marks, record { expected = expected; fault = (given, omega (arith, few)) }))
      ]

  by_place : IsUtf8 t → (at : ℕ) → unexpected_in_decimal f t ≡ drop at t → (e : StrictError) × IsDecimalCause f t e
  by_place utf8 at rest =
      let not_canonical : IsNotCanonical f t = record { utf8 = utf8; none = none } in
      elim (cases_lt at (length t)) [
        | inl inside ↦ (Unexpected at, (marks, record { is_not_canonical = not_canonical; inside = inside; rest = rest }))
        | inr outside ↦ by_digits (expected_of f t at utf8 none rest (omega (arith, outside))) (text_digits t) refl
      ]

  not_canonical_cause : (e : StrictError) × IsDecimalCause f t e
  not_canonical_cause =
      elim (utf8-or-not t) [
        | inl utf8 ↦ (let place = unexpected-place f t in by_place utf8 place.0 place.1)
        | inr not ↦ (NotUtf8, (marks, not))
      ]

pub cause-given : (f : FormatData) (t : List ℕ) → MarksDecimals f → (fault : Fault)
    → HasReading f t (λ scale. scale ≤ MAX_SCALE) (Err fault) → (e : StrictError) × IsDecimalCause f t e
cause-given f t marks TooLarge large = (OutOfRange, (marks, large))
cause-given f t marks NotCanonical none = not_canonical_cause f t marks none

-- for what parsing returns
pub ruleset judging = (result_judged, cause-given)
