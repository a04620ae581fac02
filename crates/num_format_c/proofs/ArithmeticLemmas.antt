-- Decimals at another scale, as they cross to C.
use Rattle.std.proofs.Common.{ℕ, pos, refl, arith}
use Rattle.num_format_decimal.specs.FixedPoint.{FixedPoint}
use Rattle.num_format_decimal.specs.Rounded.{CanRescale, CannotRescale, rescaled}
use Rattle.num_format_decimal.specs.declared.error.DecimalError.{DecimalError}
use Rattle.num_format_decimal.specs.declared.error.DecimalError.TheVariants as cause
use Rattle.num_format_decimal.specs.declared.rounding.Rounding.{Rounding}
use Rattle.num_format_c.specs.Arithmetic.{AreScales, Rescales}
use Rattle.num_format_c.specs.Calls.{code, rescale_status_of}

module _ (mode : Rounding) (d : FixedPoint) (scale : ℕ) where
  -- there is such a decimal
  pub is_rescaled : AreScales d.scale scale → CanRescale mode d scale → Rescales mode scale d (rescaled mode d scale) (pos 0)
  is_rescaled scales can = record {
    bad_scale = λ none. absurd (none scales);
    digits_lost = λ _ lost. absurd (can.kept lost);
    out_of_range = λ _ _ none. absurd (none can.fits);
    number = λ _ _ _. (refl, refl);
  }

  -- there is none
  pub not_rescaled : (e : DecimalError) → AreScales d.scale scale → CannotRescale mode d scale e
      → Rescales mode scale d d (code (rescale_status_of e))
  not_rescaled cause.ScaleTooLarge scales why = absurd (omega (arith, scales.1, why))
  not_rescaled cause.DigitsLost scales why = record {
    bad_scale = λ none. absurd (none scales);
    digits_lost = λ _ _. record { error = refl; unchanged = refl };
    out_of_range = λ _ kept _. absurd (kept why.1);
    number = λ _ kept _. absurd (kept why.1);
  }
  not_rescaled cause.OutOfRange scales why = record {
    bad_scale = λ none. absurd (none scales);
    digits_lost = λ _ lost. absurd (why.1 lost);
    out_of_range = λ _ _ _. record { error = refl; unchanged = refl };
    number = λ _ _ fits. absurd (why.2 fits);
  }
