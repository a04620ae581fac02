-- What strict parsing accepts is typed for the same, and a text is typed for one number at most.
use Rattle.std.proofs.Common.{◌≡◌, ℕ, ℤ, List, Ok, Err, refl, subst, ◌∙◌, ap, arith, length}
use Rattle.std.specs.Prelude.{MatchResult, Result}
use Rattle.num_format_text.specs.Format.{FormatData}
use Rattle.num_format_int.specs.Kind.{Kind}
use Rattle.num_format_parsing.specs.Strict.{ParsesStrictly}
use Rattle.num_format_decimal.specs.FixedPoint.{FixedPoint}
use Rattle.num_format_decimal.specs.Marks.{MarksDecimals}
use Rattle.num_format_decimal.specs.Parsing.{DecimalResult, ParsesDecimal}
use Rattle.num_format_decimal.specs.declared.parsing.ParseAtScaleError.{ParseAtScaleError}
use Rattle.num_format_decimal.specs.declared.parsing.ParseAtScaleError.TheVariants as at_scale
use Rattle.num_format_parsing.specs.declared.error.StrictError.{StrictError}
use Rattle.num_format_decimal.specs.Rounded.{CanRescale, CannotRescale}
use Rattle.num_format_decimal.specs.declared.error.DecimalError.{DecimalError}
use Rattle.num_format_decimal.specs.declared.error.DecimalError.TheVariants as rescale_error
use Rattle.num_format_decimal.specs.declared.rounding.Rounding.TheVariants.{Exact}
use Rattle.num_format_typed.proofs.CanonicalLemmas.{decimal-printed}
use Rattle.num_format_typed.specs.Laws.{PrintedAtScaleLaw, PrintedDecimalLaw}
use Rattle.num_format_typed.specs.Typed.{HasSymbols, IsPrinted, IsTypable, RescaleResult, TypedDecimalResult, TypedResult, at_any_scale}
use Rattle.num_format_typed.specs.Typed.{typed_text}
use Rattle.num_format_typed.specs.declared.error.TypedError.{TypedError}
use Rattle.num_format_typed.specs.declared.error.TypedError.TheVariants.{TooLong, Number}

-- no text is accepted and refused, and none is accepted as two
pub record IsStrict {X E Y : Type 0} (value : X → Y) (parses : List ℕ → Result X E → Type 0) : Type 0 where
  pub never : (t : List ℕ) (x : X) (e : E) → parses t (Ok x) → parses t (Err e) → ⊥
  pub same : (t : List ℕ) (x y : X) → parses t (Ok x) → parses t (Ok y) → value x ≡ value y

pub strict-whole : {X : Type 0} (k : Kind) (value : X → ℤ) (f : FormatData) → IsStrict value (ParsesStrictly k value f)
strict-whole k value f = record {
  never = λ t x e accepted refused. let wrong = (accepted.refused e).1 ((refused.refused e).0 refl) in cc;
  same = λ t x y first second. (second.number (value x)).0 ((first.number (value x)).1 refl);
}

pub strict-decimal : (f : FormatData) → IsStrict (λ (d : FixedPoint). d) (DecimalResult f)
strict-decimal f = record {
  never = λ t x e accepted refused. let wrong = (accepted.refused e).1 ((refused.refused e).0 refl) in cc;
  same = λ t x y first second. let both = (second.decimal x).1 ((first.decimal x).0 refl) in cc;
}

-- results of such parsing
module _ {X Y : Type 0} (value : X → Y) (parses : FormatData → List ℕ → Result X StrictError → Type 0) (Takes : FormatData → Type 0)
    (f : FormatData) (strict : IsStrict value (parses f)) (t : List ℕ) where
  -- what strict parsing accepts is typed for what it returns
  pub printed-first : (result : Result X (TypedError StrictError)) → Takes f → IsPrinted f t → ((e : StrictError) → ¬ (parses f t (Err e)))
      → TypedResult Takes parses f t result → (y : X) × (result ≡ Ok y) × parses f t (Ok y)
  printed-first result taken printed never (TypedResult.format_refused not is) = absurd (not taken)
  printed-first result taken printed never (TypedResult.no_text _ not is) = absurd (not printed.utf8)
  printed-first result taken printed never (TypedResult.too_long _ utf8 long is) =
      absurd (omega (arith, long, ap length printed.same, printed.short))
  printed-first result taken printed never (TypedResult.typed _ utf8 short (Ok y) again is) =
      (y, is, subst (λ u. parses f u (Ok y)) printed.same again)
  printed-first result taken printed never (TypedResult.typed _ utf8 short (Err e) again is) =
      absurd (never e (subst (λ u. parses f u (Err e)) printed.same again))

  -- a number is returned of what the text stands for
  accepted-by : (x : X) → TypedResult Takes parses f t (Ok x) → parses f (typed_text f t) (Ok x)
  accepted-by x (TypedResult.format_refused not is) = absurd (cc)
  accepted-by x (TypedResult.no_text _ utf8 is) = absurd (cc)
  accepted-by x (TypedResult.too_long _ utf8 long is) = absurd (cc)
  accepted-by x (TypedResult.typed _ utf8 short (Ok y) again is) =
      let same : y ≡ x = cc in subst (λ z. parses f (typed_text f t) (Ok z)) same again
  accepted-by x (TypedResult.typed _ utf8 short (Err d) again is) = absurd (cc)

  pub one-number : (x y : X) → TypedResult Takes parses f t (Ok x) → TypedResult Takes parses f t (Ok y) → value x ≡ value y
  one-number x y first second = strict.same (typed_text f t) x y (accepted-by x first) (accepted-by y second)

-- a printed decimal, and one at a scale
accepted-decimal : (f : FormatData) (t : List ℕ) (d : FixedPoint) (result : Result FixedPoint (TypedError StrictError)) → HasSymbols f
    → IsTypable f → ParsesDecimal f t d → TypedDecimalResult f t result → (y : FixedPoint) × (result ≡ Ok y) × DecimalResult f t (Ok y)
accepted-decimal f t d result symbols typable parses returned =
    printed-first (λ (d : FixedPoint). d) DecimalResult (λ f. IsTypable f × MarksDecimals f) f (strict-decimal f) t result
    (typable, parses.unambiguous) (decimal-printed f t d typable symbols parses)
    (λ e refused. let wrong = (refused.decimal d).1 parses in cc) returned

pub printed-decimal : PrintedDecimalLaw
printed-decimal f t d result symbols typable parses returned =
    let first = accepted-decimal f t d result symbols typable parses returned in
    let both = (first.2.decimal d).1 parses in
    let one : first.0 ≡ d = cc in
    first.1 ∙ ap Ok one

-- a decimal that can be rescaled is refused for no cause
never-refused : (d : FixedPoint) (scale : ℕ) (e : DecimalError) → CanRescale Exact d scale → CannotRescale Exact d scale e → ⊥
never-refused d scale rescale_error.ScaleTooLarge can cannot = omega (arith, can.bound, cannot)
never-refused d scale rescale_error.DigitsLost can cannot = can.kept cannot.1
never-refused d scale rescale_error.OutOfRange can cannot = cannot.2 can.fits

pub printed-at_scale : PrintedAtScaleLaw
printed-at_scale f t scale d result symbols typable parses returned =
    let first = accepted-decimal f t parses.canonical returned.parsed symbols typable parses.parses returned.decimal in
    rescaled-only result first.0 first.2 (subst (λ (r : Result FixedPoint (TypedError StrictError)). MatchResult r
    (λ x. RescaleResult x scale result) (λ e. result ≡ Err (at_any_scale e))) first.1 returned.at_scale)
  where
    rescaled-only : (result : Result FixedPoint (TypedError ParseAtScaleError)) (y : FixedPoint) → DecimalResult f t (Ok y)
        → RescaleResult y scale result → result ≡ Ok d
    rescaled-only (Ok x) y accepted at =
        let again = (accepted.decimal parses.canonical).1 parses.parses in
        let one : x ≡ d = cc (again, at.1, parses.same) in ap Ok one
    rescaled-only (Err (Number (at_scale.Rescale e))) y accepted at =
        let again = (accepted.decimal parses.canonical).1 parses.parses in
        let one : parses.canonical ≡ y = cc again in
        absurd (never-refused y scale e (subst (λ z. CanRescale Exact z scale) one parses.can) at)
    rescaled-only (Err (Number (at_scale.Parse e))) y accepted at = absurd at
    rescaled-only (Err TooLong) y accepted at = absurd at
