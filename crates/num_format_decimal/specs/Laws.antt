-- Laws of the order, the text and the rounding of decimals.
use Rattle.std.specs.Prelude.{◌≡◌, List, [], codes, ℕ, ◌+◌, ◌-◌, ◌*◌, ◌/◌, ◌%◌, ◌^◌, ◌<◌, ◌≤◌, pos, negsuc, ◌*ℤ◌, length}
use Rattle.std.specs.Ordering.{int_cmp}
use Rattle.num_format_text.specs.declared.capacities.TheConstants.{MAX_DEC_LEN, MAX_MIN_LEN, MAX_SEP_LEN}
use Rattle.num_format_text.specs.declared.grouping.Grouping.TheVariants.{Indian, Standard}
use Rattle.num_format_text.specs.English.{english_with}
use Rattle.num_format_text.specs.Format.{FormatData, IsWithinCapacity}
use Rattle.num_format_decimal.specs.declared.buffer.TheConstants.{MAX_DECIMAL_LEN}
use Rattle.num_format_decimal.specs.declared.decimal.TheConstants.{MAX_SCALE}
use Rattle.num_format_decimal.specs.declared.rounding.Rounding.{Rounding}
use Rattle.num_format_decimal.specs.declared.rounding.Rounding.TheVariants.{HalfEven, HalfAwayFromZero}
use Rattle.num_format_decimal.specs.FixedPoint.{FixedPoint, fixed_point}
use Rattle.num_format_decimal.specs.Rounded.{quotient}
use Rattle.num_format_decimal.specs.Text.{decimal_text}
use Rattle.num_format_decimal.specs.Values.{HasUnits, value_of}

-- decimals are in the order of their units, each times 10 to the power of the other's scale: so 1.50 and 1.5 are equal
abbrev pub OrderLaw : Type 0
OrderLaw = (a b : FixedPoint) → a.scale ≤ MAX_SCALE → b.scale ≤ MAX_SCALE →
    int_cmp (value_of a) (value_of b) ≡ int_cmp (a.units *ℤ pos (10 ^ b.scale)) (b.units *ℤ pos (10 ^ a.scale))

-- no text of a decimal has more than `MAX_DECIMAL_LEN` bytes, and that of -2 ^ 127 at scale 1 can have as many
pub record TextBoundLaw : Type 0 where
  pub bound : (f : FormatData) (d : FixedPoint) → IsWithinCapacity f → d.scale ≤ MAX_SCALE → HasUnits d
      → length (decimal_text f d) ≤ MAX_DECIMAL_LEN
  pub reached : (f : FormatData) → f.grouping ≡ Indian → length f.separator ≡ MAX_SEP_LEN → length f.minus_sign ≡ MAX_MIN_LEN
      → length f.decimal ≡ MAX_DEC_LEN →
      length (decimal_text f (fixed_point (negsuc (2 ^ 127 - 1)) 1)) ≡ MAX_DECIMAL_LEN

-- the number of times that n goes into m, rounded, is at most half from the exact one
pub record IsNearest (mode : Rounding) : Type 0 where
  pub above : (m n : ℕ) → 0 < n → 2 * (quotient mode m n * n) ≤ 2 * m + n
  pub below : (m n : ℕ) → 0 < n → 2 * m ≤ 2 * (quotient mode m n * n) + n

-- two of the roundings are to the nearest number; at a half, one is to the even number and the other away from zero
pub record RoundingLaw : Type 0 where
  pub half_even : IsNearest HalfEven
  pub to_even : (m n : ℕ) → 2 * (m % n) ≡ n → quotient HalfEven m n % 2 ≡ 0
  pub half_away : IsNearest HalfAwayFromZero
  pub away : (m n : ℕ) → 2 * (m % n) ≡ n → quotient HalfAwayFromZero m n ≡ m / n + 1

-- the data of `en` with another decimal mark
abbrev pub english_marked : List ℕ → FormatData
english_marked mark = record (english_with Standard (codes ",") (codes "-")) { decimal = mark }

-- under a mark that is the separator, or a digit, or empty, two decimals have one text
pub record MarkNeededLaw : Type 0 where
  -- 1,234
  pub separator : decimal_text (english_marked (codes ",")) (fixed_point (pos 1234) 0)
      ≡ decimal_text (english_marked (codes ",")) (fixed_point (pos 1234) 3)
  -- 151
  pub digit : decimal_text (english_marked (codes "5")) (fixed_point (pos 151) 0)
      ≡ decimal_text (english_marked (codes "5")) (fixed_point (pos 11) 1)
  -- 12
  pub empty : decimal_text (english_marked []) (fixed_point (pos 12) 0) ≡ decimal_text (english_marked []) (fixed_point (pos 12) 1)
