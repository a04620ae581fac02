-- The definition of a decimal at a scale is what rescaling returns.
use Rattle.std.proofs.Common.{Err, Ok, Result, arith, false, inl, inr, refl, true, ap, ℕ, ◌≡◌}
use Rattle.std.proofs.lemmas.Bool.{cases_Bool, false_from_ne_true, lt-ltb, ltb-true, ne_eqb}
use Rattle.std.specs.Prelude.{IfErr, IfOk, OnOk, nat_lt, ◌%◌, ◌==◌, ◌≤◌}
use Rattle.num_format_decimal.specs.FixedPoint.{FixedPoint}
use Rattle.num_format_decimal.specs.Rounded.{CanRescale, CannotRescale, LosesDigits, dividend, divisor, rescaled}
use Rattle.num_format_decimal.specs.declared.decimal.TheConstants.{MAX_SCALE}
use Rattle.num_format_decimal.specs.declared.error.DecimalError.{DecimalError}
use Rattle.num_format_decimal.specs.declared.error.DecimalError.TheVariants.{DigitsLost, OutOfRange, ScaleTooLarge}
use Rattle.num_format_decimal.specs.declared.rounding.Rounding.{Rounding}
use Rattle.num_format_decimal.specs.declared.rounding.Rounding.TheVariants.{Exact, HalfAwayFromZero, HalfEven, TowardZero}
use Rattle.regroup_faults.proofs.DecimalLemmas.{fits-Decides}
use Rattle.regroup_faults.specs.Reading.{loses_digits, scaled}
use Rattle.regroup_faults.specs.declared.scale.Scale.{Scale}

loses : (mode : Rounding) (d : FixedPoint) (scale : ℕ) → LosesDigits mode d scale → loses_digits mode d scale ≡ true
loses Exact d scale lost = rw (ne_eqb (dividend d scale % divisor d scale) 0 lost.1) refl
loses HalfEven d scale lost = let is = lost.0 in absurd (cc is)
loses HalfAwayFromZero d scale lost = let is = lost.0 in absurd (cc is)
loses TowardZero d scale lost = let is = lost.0 in absurd (cc is)

keeps : (mode : Rounding) (d : FixedPoint) (scale : ℕ) → ¬ (LosesDigits mode d scale) → loses_digits mode d scale ≡ false
keeps Exact d scale kept = elim (cases_Bool (dividend d scale % divisor d scale == 0)) [
  | inl none ↦ rw none refl
  | inr some ↦ absurd (kept (refl, λ none. let is = rw none at some in absurd (cc is)))
]
keeps HalfEven d scale kept = refl
keeps HalfAwayFromZero d scale kept = refl
keeps TowardZero d scale kept = refl

module _ (scale : Scale) (d : FixedPoint) where
  low : scale.decimals ≤ MAX_SCALE → nat_lt MAX_SCALE scale.decimals ≡ false
  low bound = false_from_ne_true _ (λ many. omega (arith, ltb-true _ _ many, bound))

  pub scaled-is : (r : Result FixedPoint DecimalError) → IfOk r (λ x. x ≡ rescaled scale.rounding d scale.decimals)
      → OnOk r (CanRescale scale.rounding d scale.decimals) → IfErr r (CannotRescale scale.rounding d scale.decimals) → r ≡ scaled scale d
  unfolding scaled
  scaled-is (Ok x) is can cannot =
      rw (low can.bound, keeps scale.rounding d scale.decimals can.kept, (fits-Decides _).1 can.fits) (ap Ok is)
  scaled-is (Err ScaleTooLarge) is can cannot = rw (lt-ltb _ _ cannot) refl
  scaled-is (Err DigitsLost) is can cannot = rw (low cannot.0, loses scale.rounding d scale.decimals cannot.1) refl
  scaled-is (Err OutOfRange) is can cannot = rw (
    low cannot.0,
    keeps scale.rounding d scale.decimals cannot.1,
    false_from_ne_true _ (λ fits. cannot.2 ((fits-Decides _).0 fits)),
  ) refl
