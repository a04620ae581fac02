-- A decimal at another scale, and a sum at the larger of two.
use Rattle.std.specs.Prelude.{◌≡◌, ℕ, ◌+◌, ◌-◌, ◌*◌, ◌/◌, ◌%◌, ◌^◌, ◌<◌, ◌≤◌, ◌≢◌, nat_lt, nat_le, ◌==◌, ◌&&◌, ◌||◌, Bool, false}
use Rattle.std.specs.Prelude.{unsigned_abs, max, ◌+ℤ◌, if◌then◌else◌}
use Rattle.std.specs.Int.{is_negative}
use Rattle.num_format_int.specs.Kind.{signed_number}
use Rattle.num_format_decimal.specs.declared.rounding.Rounding.{Rounding}
use Rattle.num_format_decimal.specs.declared.rounding.Rounding.TheVariants.{HalfEven, HalfAwayFromZero, TowardZero, Exact}
use Rattle.num_format_decimal.specs.declared.decimal.TheConstants.{MAX_SCALE}
use Rattle.num_format_decimal.specs.declared.error.DecimalError.{DecimalError}
use Rattle.num_format_decimal.specs.declared.error.DecimalError.TheVariants.{ScaleTooLarge, DigitsLost, OutOfRange}
use Rattle.num_format_decimal.specs.FixedPoint.{FixedPoint, fixed_point}
use Rattle.num_format_decimal.specs.Values.{HasUnits}

-- whether a quotient with this remainder is rounded up: from half of the divisor on, or of two equally near numbers to the even one
abbrev pub rounds_up : Rounding → (quotient remainder divisor : ℕ) → Bool
rounds_up HalfEven q r n = nat_lt n (2 * r) || ((2 * r == n) && (q % 2 == 1))
rounds_up HalfAwayFromZero q r n = nat_le n (2 * r)
rounds_up TowardZero q r n = false
rounds_up Exact q r n = false

-- m divided by n, rounded to a whole number
abbrev pub quotient : Rounding → (m n : ℕ) → ℕ
quotient mode m n = m / n + (if rounds_up mode (m / n) (m % n) n then 1 else 0)

-- the absolute value of the units at a scale that is no smaller
abbrev pub dividend : FixedPoint → (scale : ℕ) → ℕ
dividend d scale = unsigned_abs d.units * 10 ^ (scale - d.scale)

-- by how much it is then divided, where the scale is smaller: else by 1
abbrev pub divisor : FixedPoint → (scale : ℕ) → ℕ
divisor d scale = 10 ^ (d.scale - scale)

-- a remainder other than zero would be lost, and is not to be rounded
abbrev pub LosesRemainder : Rounding → ℕ → Type 0
LosesRemainder mode r = (mode ≡ Exact) × (r ≢ 0)

-- digits other than zero would be lost at the scale, and are not to be rounded
abbrev pub LosesDigits : Rounding → FixedPoint → (scale : ℕ) → Type 0
LosesDigits mode d scale = LosesRemainder mode (dividend d scale % divisor d scale)

-- a decimal at another scale: its absolute value is rounded, and its sign stays
abbrev pub rescaled : Rounding → FixedPoint → (scale : ℕ) → FixedPoint
rescaled mode d scale =
    fixed_point (signed_number (is_negative d.units) (quotient mode (dividend d scale) (divisor d scale))) scale

-- there is such a decimal
pub record CanRescale (mode : Rounding) (d : FixedPoint) (scale : ℕ) : Type 0 where
  pub bound : scale ≤ MAX_SCALE
  pub kept : ¬ (LosesDigits mode d scale)
  pub fits : HasUnits (rescaled mode d scale)

-- why there is no such decimal: the first of three causes
abbrev pub CannotRescale : Rounding → FixedPoint → (scale : ℕ) → DecimalError → Type 0
CannotRescale mode d scale ScaleTooLarge = MAX_SCALE < scale
CannotRescale mode d scale DigitsLost = (scale ≤ MAX_SCALE) × LosesDigits mode d scale
CannotRescale mode d scale OutOfRange = (scale ≤ MAX_SCALE) × (¬ (LosesDigits mode d scale)) × (¬ (HasUnits (rescaled mode d scale)))

-- the sum of two decimals at the larger of their scales, where the second has its absolute value and this sign
abbrev pub sum_with_sign : FixedPoint → FixedPoint → (second_is_negative : Bool) → FixedPoint
sum_with_sign a b second_is_negative =
    let scale = max a.scale b.scale in
    fixed_point (signed_number (is_negative a.units) (dividend a scale) +ℤ signed_number second_is_negative (dividend b scale)) scale
