-- What a contract sees of a decimal.
use Rattle.std.specs.Prelude.{ℕ, ℤ}

-- a whole number of units, divided by 10 to the power of the scale
pub record FixedPoint : Type 0 where
  pub units : ℤ
  pub scale : ℕ

-- the decimal with these units and this scale
abbrev pub fixed_point : (units : ℤ) → (scale : ℕ) → FixedPoint
fixed_point units scale = record { units = units; scale = scale }
