-- The value of a decimal, and what follows from the values of two.
use Rattle.std.specs.Prelude.{ℕ, ◌-◌, ◌^◌, max, ℤ, pos, ◌+ℤ◌, ◌*ℤ◌, neg_ℤ, unsigned_abs, List, ◌++◌, FitsSigned}
use Rattle.std.specs.Int.{w128, int_div_euclid, int_rem_euclid}
use Rattle.std.specs.Hash as fed
use Rattle.num_format_decimal.specs.declared.decimal.TheConstants.{MAX_SCALE}
use Rattle.num_format_decimal.specs.FixedPoint.{FixedPoint, fixed_point}

-- how many units of a scale a decimal has, where its own scale is no larger
abbrev pub units_at : ℕ → FixedPoint → ℤ
units_at scale d = d.units *ℤ pos (10 ^ (scale - d.scale))

-- the value of a decimal, in units of the largest scale
abbrev pub value_of : FixedPoint → ℤ
value_of d = units_at MAX_SCALE d

-- a whole number as a decimal
abbrev pub whole : ℤ → FixedPoint
whole z = fixed_point z 0

-- the units are an `i128`
abbrev pub HasUnits : FixedPoint → Type 0
HasUnits d = FitsSigned w128 d.units

-- the sum of two decimals, at the larger of their scales
abbrev pub plus : FixedPoint → FixedPoint → FixedPoint
plus a b =
    let scale = max a.scale b.scale in
    fixed_point (units_at scale a +ℤ units_at scale b) scale

-- the negated decimal
abbrev pub negated : FixedPoint → FixedPoint
negated d = fixed_point (neg_ℤ d.units) d.scale

-- the difference of two decimals, at the larger of their scales
abbrev pub minus : FixedPoint → FixedPoint → FixedPoint
minus a b = plus a (negated b)

-- the whole number at or below the value
abbrev pub whole_part : FixedPoint → ℤ
whole_part d = int_div_euclid (value_of d) (pos (10 ^ MAX_SCALE))

-- by how many units of the largest scale the value is above that whole number
abbrev pub rest_of : FixedPoint → ℕ
rest_of d = unsigned_abs (int_rem_euclid (value_of d) (pos (10 ^ MAX_SCALE)))

-- what is hashed: both parts of the value
abbrev pub hash_input_of : FixedPoint → List (List ℕ)
hash_input_of d = fed.i128 (whole_part d) ++ fed.u128 (rest_of d)
