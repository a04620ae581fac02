-- At most one cause holds of a text, and none of a text that is canonical for a value.
use Rattle.std.proofs.Common.{◌≡◌, ℕ, zero, suc, ◌≤◌, List, length, refl, ap, ◌∙◌, sym, arith, length-drop, subst, ℤ, pos, negsuc}
use Rattle.std.proofs.Common.{unsigned_abs, Bool, true, false, inl, inr, Ok, Err}
use Rattle.std.specs.Prelude.{Result, IsTrue, ◌≤ℤ◌}
use Rattle.std.specs.Int.{is_negative}
use Rattle.std.proofs.lemmas.Bool.{both_ways, cases_Bool}
use Rattle.std.proofs.lemmas.Int.{ints}
use Rattle.num_format_text.specs.declared.grouping.Grouping.{Grouping}
use Rattle.num_format_text.specs.Format.{FormatData}
use Rattle.num_format_int.specs.Kind.{Kind, IsValueOf, IsWithin, signed_number}
use Rattle.num_format_int.proofs.DigitLemmas.{digits_given}
use Rattle.num_format_parsing.specs.Parts.{number_in, HasBody, IsJudged}
use Rattle.num_format_parsing.specs.Shapes.{HasPlainSymbols}
use Rattle.num_format_parsing.specs.Strict.{IsCanonical, StopsAt, IsExpected, IsCause, ParsesStrictly}
use Rattle.num_format_parsing.specs.declared.reading.Reading.{Reading}
use Rattle.num_format_parsing.specs.declared.reading.Reading.TheVariants.{Number, TooLarge, NotCanonical}
use Rattle.num_format_parsing.specs.declared.error.StrictError.{StrictError}
use Rattle.num_format_parsing.specs.declared.error.StrictError.TheVariants.{AmbiguousFormat, NotUtf8, Unexpected, NoDigit, Misspelled}
use Rattle.num_format_parsing.specs.declared.error.StrictError.TheVariants.{OutOfRange, TooManyDecimals}
use Rattle.num_format_parsing.proofs.CanonicalLemmas.{text_digits-canonical, is_negative-pos, no_other-canonical, canonical-once}
use Rattle.num_format_parsing.proofs.CanonicalLemmas.{unexpected-none}

stops-not : (f : FormatData) (t : List ℕ) (a : ℕ) → StopsAt f t a → IsExpected f t → ⊥
stops-not f t a stops expected = omega (arith, ap length (sym stops.rest ∙ expected.rest), length-drop a t, stops.inside)

stops-once : (f : FormatData) (t : List ℕ) (a b : ℕ) → StopsAt f t a → StopsAt f t b → a ≡ b
stops-once f t a b p q = omega (arith, ap length (sym p.rest ∙ q.rest), length-drop a t, length-drop b t, p.inside, q.inside)

-- a text that is canonical for a number is refused for no cause but that it is out of range
canonical_cause : (k : Kind) (f : FormatData) (t : List ℕ) (z : ℤ) (e : StrictError) → HasPlainSymbols f → IsCanonical f t z
    → IsCause k f t e → (e ≡ OutOfRange) × ¬ (IsValueOf k z)
canonical_cause k f t z AmbiguousFormat s is_canonical p = absurd (p s.unambiguous)
canonical_cause k f t z NotUtf8 s is_canonical p = absurd (p.1 ((no_other-canonical f t z s is_canonical).utf8))
canonical_cause k f t z (Unexpected a) s is_canonical p =
    absurd (stops-not f t a p.1 (record {
      utf8 = (no_other-canonical f t z s is_canonical).utf8;
      rest =
          unexpected-none f t z s is_canonical;
    }))
canonical_cause k f t z NoDigit s is_canonical p =
    absurd (omega (arith, digits_given (unsigned_abs z), ap length (sym (text_digits-canonical f t z s is_canonical) ∙ p.1.none)))
canonical_cause k f t z TooManyDecimals s is_canonical p = absurd p
canonical_cause k f t z Misspelled s is_canonical p = absurd (p.1.wrong z is_canonical)
canonical_cause k f t z OutOfRange s is_canonical p =
    (refl, λ value. p.1.wrong (subst (IsValueOf k) (canonical-once f t z p.1.number s is_canonical p.1.canonical) value))

-- two causes of one refusal are the same
pub only_cause : (k : Kind) (f : FormatData) (t : List ℕ) (d e : StrictError) → HasPlainSymbols f → IsCause k f t d → IsCause k f t e
    → d ≡ e
only_cause k f t AmbiguousFormat e s p q = absurd (p s.unambiguous)
only_cause k f t OutOfRange e s p q = sym (canonical_cause k f t p.1.number e s p.1.canonical q).0
only_cause k f t TooManyDecimals e s p q = absurd p
only_cause k f t d AmbiguousFormat s p q = absurd (q s.unambiguous)
only_cause k f t d OutOfRange s p q = (canonical_cause k f t q.1.number d s q.1.canonical p).0
only_cause k f t d TooManyDecimals s p q = absurd q
only_cause k f t NotUtf8 NotUtf8 s p q = refl
only_cause k f t NotUtf8 (Unexpected b) s p q = absurd (p.1 q.1.utf8)
only_cause k f t NotUtf8 e s p q = absurd (p.1 q.1.expected.utf8)
only_cause k f t (Unexpected a) (Unexpected b) s p q = ap Unexpected (stops-once f t a b p.1 q.1)
only_cause k f t (Unexpected a) NotUtf8 s p q = absurd (q.1 p.1.utf8)
only_cause k f t (Unexpected a) e s p q = absurd (stops-not f t a p.1 q.1.expected)
only_cause k f t d NotUtf8 s p q = absurd (q.1 p.1.expected.utf8)
only_cause k f t d (Unexpected b) s p q = absurd (stops-not f t b q.1 p.1.expected)
only_cause k f t NoDigit NoDigit s p q = refl
only_cause k f t NoDigit Misspelled s p q = absurd (q.1.some p.1.none)
only_cause k f t Misspelled NoDigit s p q = absurd (p.1.some q.1.none)
only_cause k f t Misspelled Misspelled s p q = refl

-- what is judged is what strict parsing returns
pub parses-judged : {X : Type 0} (k : Kind) (value : X → ℤ) (f : FormatData) (t : List ℕ) (r : Result X StrictError) → HasPlainSymbols f
    → IsJudged k value f t r → ParsesStrictly k value f t r
parses-judged k value f t (Ok n) s judged = record {
  number = λ z. (
    λ is_canonical. canonical-once f t z (value n) s is_canonical judged.0,
    λ same. subst (IsCanonical f t)
        (sym same) judged.0,
  );
  accepted = (λ ok. (s.unambiguous, (value n, judged.0, judged.1)), λ given. refl);
  refused = λ e. (λ wrong. cc, λ cause. absurd ((canonical_cause k f t (value n) e s judged.0 cause).1 judged.1));
}
parses-judged k value f t (Err d) s judged = record {
  number = tt;
  accepted = (λ wrong. cc, λ given. absurd ((canonical_cause k f t given.1.0 d s given.1.1 judged).1 given.1.2));
  refused = λ e. (
    λ same. let error : d ≡ e = cc in subst (IsCause k f t) error judged,
    λ cause. ap Err (only_cause k f t d e s judged cause),
  );
}

-- only a kind that has negative values has one
pub sign-kind : (k : Kind) (z : ℤ) → (k.has_negative ≡ false → pos 0 ≤ℤ k.low) → IsValueOf k z → is_negative z ≡ true
    → IsTrue k.has_negative
sign-kind k (pos n) given value negative = absurd (both_ways _ (is_negative-pos n) negative)
sign-kind k (negsuc n) given value negative =
    elim (cases_Bool k.has_negative) [
      | inl has ↦ has
      | inr none ↦ let above = given none in let least = value.above in absurd (omega (arith, ints, above, least))
    ]

pub below_high : (n : ℕ) (high : ℤ) → pos n ≤ℤ high → n ≤ unsigned_abs high
below_high n (pos m) h = omega (arith, ints)
below_high n (negsuc m) h = absurd (omega (arith, ints))

pub above_low : (n : ℕ) (low : ℤ) → low ≤ℤ negsuc n → suc n ≤ unsigned_abs low
above_low n (pos m) h = absurd (omega (arith, ints))
above_low n (negsuc m) h = omega (arith, ints)

-- a number past the bound of a kind is no value
pub past-bound : (bound : ℕ) (k : Kind) (negative : Bool) (n : ℕ) → IsWithin bound k → bound ≤ n
    → ¬ (IsValueOf k (signed_number negative n))
past-bound bound k false n within past value = omega (arith, below_high n k.high value.below, within.high, past)
past-bound bound k true zero within past value = omega (arith, within.high, past)
past-bound bound k true (suc n) within past value = omega (arith, above_low n k.low value.above, within.low, past)

-- what is past the bound is too large
pub reading-past : (bound : ℕ) (k : Kind) → IsWithin bound k → (g : Grouping) (s t : List ℕ) (r : Reading)
    → HasBody (λ n. bound ≤ n) g s t r →
    HasBody (λ n. (b : Bool) → ¬ (IsValueOf k (signed_number b n))) g s t r
reading-past bound k within g s t (Number n) read = read
reading-past bound k within g s t TooLarge read = (read.0, λ b. past-bound bound k b (number_in t) within read.1)
reading-past bound k within g s t NotCanonical read = read
