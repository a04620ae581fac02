-- What the calls that compute with decimals return and write.
use Rattle.std.specs.Prelude.{◌≡◌, ℕ, ◌≤◌, ◌==◌, ℤ, pos, negsuc, if◌then◌else◌}
use Rattle.std.specs.Ordering.{int_cmp}
use Rattle.std.specs.declared.cmp.Ordering.{Ordering}
use Rattle.std.specs.declared.cmp.Ordering.TheVariants.{Less, Equal, Greater}
use Rattle.num_format_decimal.specs.FixedPoint.{FixedPoint}
use Rattle.num_format_decimal.specs.Rounded.{LosesDigits, rescaled}
use Rattle.num_format_decimal.specs.Values.{HasUnits, value_of}
use Rattle.num_format_decimal.specs.declared.decimal.TheConstants.{MAX_SCALE}
use Rattle.num_format_decimal.specs.declared.rounding.Rounding.{Rounding}
use Rattle.num_format_decimal.specs.declared.rounding.Rounding.TheVariants.{Exact, HalfAwayFromZero, HalfEven, TowardZero}
use Rattle.num_format_c.specs.Calls.{Fails}
use Rattle.num_format_c.specs.declared.status.Status.TheVariants.{BadScale, DigitsLost, OutOfRange}

-- two numbers are scales
abbrev pub AreScales : ℕ → ℕ → Type 0
AreScales a b = (a ≤ MAX_SCALE) × (b ≤ MAX_SCALE)

-- a decimal becomes what is computed of it and another
pub record Computes (f : FixedPoint → FixedPoint → FixedPoint) (other old new : FixedPoint) (result : ℤ) : Type 0 where
  pub bad_scale : ¬ AreScales old.scale other.scale → Fails BadScale old new result
  pub out_of_range : AreScales old.scale other.scale → ¬ HasUnits (f old other) → Fails OutOfRange old new result
  pub computed : AreScales old.scale other.scale → HasUnits (f old other) → (result ≡ pos 0) × (new ≡ f old other)

-- the rounding for which a number stands
abbrev pub rounding_of : ℕ → Rounding
rounding_of number =
    if number == 1 then HalfEven else (if number == 2 then HalfAwayFromZero else (if number == 3 then TowardZero else Exact))

-- a decimal becomes the one at another scale
pub record Rescales (mode : Rounding) (scale : ℕ) (old new : FixedPoint) (result : ℤ) : Type 0 where
  pub bad_scale : ¬ AreScales old.scale scale → Fails BadScale old new result
  pub digits_lost : AreScales old.scale scale → LosesDigits mode old scale → Fails DigitsLost old new result
  pub out_of_range : AreScales old.scale scale → ¬ LosesDigits mode old scale → ¬ HasUnits (rescaled mode old scale)
      → Fails OutOfRange old new result
  pub number : AreScales old.scale scale → ¬ LosesDigits mode old scale → HasUnits (rescaled mode old scale)
      → (result ≡ pos 0) × (new ≡ rescaled mode old scale)

-- the number for which an order stands
abbrev pub order_code : Ordering → ℤ
order_code Less = negsuc 0
order_code Equal = pos 0
order_code Greater = pos 1

-- the order of two decimals is written
pub record Compares (a b : FixedPoint) (old new result : ℤ) : Type 0 where
  pub bad_scale : ¬ AreScales a.scale b.scale → Fails BadScale old new result
  pub compared : AreScales a.scale b.scale → (result ≡ pos 0) × (new ≡ order_code (int_cmp (value_of a) (value_of b)))
