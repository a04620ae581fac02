-- Powers of ten, signs, and units at other scales, and sums.
use Rattle.std.proofs.Common.{◌≡◌, ℕ, zero, suc, ◌+◌, ◌-◌, ◌*◌, ◌/◌, ◌%◌, ◌^◌, ◌<◌, ◌≤◌, Bool, true, false, ap, sym, inl, inr, arith, ℤ}
use Rattle.std.proofs.Common.{pos, unsigned_abs, subst, ◌⊎◌}
use Rattle.std.specs.Prelude.{FitsSigned, ◌≢◌, max, ◌+ℤ◌, SomeIff, Option}
use Rattle.std.specs.Int.{cast_signed, is_negative, w128, IsNonZero, NotMinOverMinusOne}
use Rattle.std.proofs.Math.Nat.{div-add-mod, div-mul-le_self, mod-eq-sub-div-mul, mod-lt, mod-one, mul-le-mul_left, one-le-pow}
use Rattle.std.proofs.Math.Nat.{pow-le-pow_right, pow-suc}
use Rattle.std.proofs.lemmas.Bool.{cases_lt}
use Rattle.std.proofs.lemmas.Bool.Decides.{nat_tests}
use Rattle.std.proofs.lemmas.Int.{ints}
use Rattle.std.proofs.lemmas.Nat.{pow-add, div-mul-add, mod-mul-add}
use Rattle.num_format_int.specs.Kind.{signed_number}
use Rattle.num_format_decimal.specs.declared.rounding.Rounding.{Rounding}
use Rattle.num_format_decimal.specs.FixedPoint.{FixedPoint, fixed_point}
use Rattle.num_format_decimal.specs.Rounded.{CanRescale, LosesDigits, LosesRemainder, dividend, divisor, quotient, rescaled, rounds_up}
use Rattle.num_format_decimal.specs.Rounded.{CannotRescale, sum_with_sign}
use Rattle.num_format_decimal.specs.Values.{HasUnits}
use Rattle.num_format_decimal.specs.declared.error.DecimalError.TheVariants.{OutOfRange}

-- powers of ten up to the largest scale
pub power_le : (e : ℕ) → e ≤ 38 → 10 ^ e ≤ 10 ^ 38
power_le e small = pow-le-pow_right {n = 10} (omega arith) small

pub power_positive : (e : ℕ) → 0 < 10 ^ e
power_positive e = omega (arith, one-le-pow e 10 (omega arith))

pub grown : (n k r : ℕ) → n ≤ n * 10 ^ k + r
grown n k r = let some = power_positive k in grind arith

-- a power of ten in two parts that fit 64 bits each
pub power_parts : (e first : ℕ) → ¬ (e < 20) → first ≡ 10 ^ (e - 19) → first * 10000000000000000000 ≡ 10 ^ e
power_parts e first large same = let sum : e - 19 + 19 ≡ e = omega arith in cc (sum, pow-add 10 (e - 19) 19)

-- a power of ten as a signed number, by which numbers can be divided
pub power_as_signed : (e n : ℕ) → e ≤ 38 → n ≡ 10 ^ e → cast_signed w128 n ≡ pos (10 ^ e)
power_as_signed e n few same = omega (arith, ints, power_le e few)

pub power_nonzero : (z : ℤ) (e : ℕ) → z ≡ pos (10 ^ e) → IsNonZero w128 z
power_nonzero z e same = rw same (power_positive e)

pub power_not_minus_one : (x z : ℤ) (e : ℕ) → e ≤ 38 → z ≡ pos (10 ^ e) → NotMinOverMinusOne w128 x z
power_not_minus_one x z e few same = rw same (λ all. absurd (omega (arith, power_le e few, all)))

-- an `i128` has an absolute value of at most 2 ^ 127
pub abs_le : (z : ℤ) → FitsSigned w128 z → unsigned_abs z ≤ 2 ^ 127
abs_le z fits = omega (arith, ints)

-- a number whose absolute value is larger is none
pub too_large : (b : Bool) (n : ℕ) → 2 ^ 127 < n → ¬ (FitsSigned w128 (signed_number b n))
too_large false n large fits = omega (arith, ints)
too_large true n large fits = omega (arith, ints)

-- at a scale that is no larger than its own, a number has its own units
pub own_units : (d : FixedPoint) (scale : ℕ) → scale ≤ d.scale → dividend d scale ≡ unsigned_abs d.units
own_units d scale low = let none : scale - d.scale ≡ 0 = omega arith in rw none (omega arith)

-- no multiple of ten is a power of two
no_power : (a k : ℕ) → 0 < k → a * 10 ^ k ≡ 2 ^ 128 → ⊥
no_power a zero some e = omega arith
no_power a (suc k) some e = omega (arith, e, ap (λ n. a * n) (pow-suc 10 k))

pub larger : (d : FixedPoint) (scale : ℕ) → unsigned_abs d.units ≤ 2 ^ 127 → ¬ (dividend d scale < 2 ^ 128)
    → (d.scale < scale) × (2 ^ 128 < dividend d scale)
larger d scale within large =
    elim (cases_lt d.scale scale) [
      | inl above ↦
          let apart : dividend d scale ≢ 2 ^ 128 = no_power (unsigned_abs d.units) (scale - d.scale) (omega arith) in
          (above, omega (arith, large, apart))
      | inr low ↦ absurd (large (omega (arith, own_units d scale low)))
    ]

-- a quotient is rounded up only where half of the divisor is left
pub at_least_half : (mode : Rounding) (q r n : ℕ) → rounds_up mode q r n ≡ true → n ≤ 2 * r
at_least_half mode q r n up = grind (arith, nat_tests)

pub rounded_up_fits : (mode : Rounding) (m n : ℕ) → 0 < n → rounds_up mode (m / n) (m % n) n ≡ true → m / n < m
rounded_up_fits mode m n positive up =
    let half = at_least_half mode (m / n) (m % n) n up in
    omega (arith, half, mod-lt m positive, div-add-mod m n, mul-le-mul_left (m / n) positive)

-- one divides each number
quotient_one : (mode : Rounding) (m : ℕ) → quotient mode m 1 ≡ m
quotient_one mode m = grind (arith, nat_tests)

-- why there is no such decimal, where its absolute value takes more than 128 bits
pub cannot_be_rescaled : (mode : Rounding) (d : FixedPoint) (scale : ℕ) → scale ≤ 38 → unsigned_abs d.units ≤ 2 ^ 127
    → ¬ (dividend d scale < 2 ^ 128) → CannotRescale mode d scale OutOfRange
cannot_be_rescaled mode d scale few within large =
    let found = larger d scale within large in
    let none : d.scale - scale ≡ 0 = omega (arith, found.0) in
    rw (none, quotient_one mode (dividend d scale)) (
      few,
      λ loses. loses.1 (mod-one (dividend d scale)),
      too_large (is_negative d.units) (dividend d scale) (omega (arith, found.1)),
    )

pub is_rescaled : (mode : Rounding) (d : FixedPoint) (scale m n q : ℕ) (s : Bool) (x : FixedPoint) → s ≡ is_negative d.units
    → m ≡ dividend d scale → n ≡ divisor d scale → q ≡ quotient mode m n →
    x ≡ fixed_point (signed_number s q) scale → x ≡ rescaled mode d scale
is_rescaled mode d scale m n q s x sign first second rounded same = cc

pub loses_digits : (mode : Rounding) (d : FixedPoint) (scale m n : ℕ) → m ≡ dividend d scale → n ≡ divisor d scale
    → LosesRemainder mode (m % n) → LosesDigits mode d scale
loses_digits mode d scale m n first second loses = rw (← first, ← second) loses

pub keeps_digits : (mode : Rounding) (d : FixedPoint) (scale m n : ℕ) → m ≡ dividend d scale → n ≡ divisor d scale
    → ¬ (LosesRemainder mode (m % n)) → ¬ (LosesDigits mode d scale)
keeps_digits mode d scale m n first second keeps = rw (← first, ← second) keeps

pub can_be_rescaled : (mode : Rounding) (d : FixedPoint) (scale m n q : ℕ) (s : Bool) → scale ≤ 38 → s ≡ is_negative d.units
    → m ≡ dividend d scale → n ≡ divisor d scale → q ≡ quotient mode m n →
    ¬ (LosesRemainder mode (m % n)) → HasUnits (fixed_point (signed_number s q) scale) → CanRescale mode d scale
can_be_rescaled mode d scale m n q s bound sign first second rounded keeps fits = record {
  bound = bound;
  kept = rw (← first, ← second) keeps;
  fits = rw (← first, ← second, ← sign, ← rounded) fits;
}

pub rescaled_too_large : (mode : Rounding) (d : FixedPoint) (scale m n q : ℕ) (s : Bool) → s ≡ is_negative d.units → m ≡ dividend d scale
    → n ≡ divisor d scale → q ≡ quotient mode m n →
    ¬ (HasUnits (fixed_point (signed_number s q) scale)) → ¬ (HasUnits (rescaled mode d scale))
rescaled_too_large mode d scale m n q s sign first second rounded large = rw (← first, ← second, ← sign, ← rounded) large

-- a quotient times the divisor, and what is left of a number
pub ruleset quotient_times = (div-mul-le_self, mod-eq-sub-div-mul)

-- a division in steps, as on paper: each takes what the one before it left, and 32 bits more
pub long_division : (n high low middle last b q : ℕ) → 0 < b → high ≡ n / 2 ^ 64 → low ≡ n % 2 ^ 64
    → middle ≡ high % b * 2 ^ 32 + low / 2 ^ 32 → last ≡ middle % b * 2 ^ 32 + low % 2 ^ 32
    → q ≡ high / b * 2 ^ 64 + (middle / b * 2 ^ 32 + last / b) → (q ≡ n / b) × (last % b ≡ n % b)
long_division n high low middle last b q some is_high is_low is_middle is_last is_q =
    let all : n ≡ q * b + last % b =
    omega (arith, ap (λ m. m * b) is_q, div-add-mod high b, div-add-mod middle b, div-add-mod last b) in
    rw all (sym (div-mul-add q b (last % b) (mod-lt last some)), sym (mod-mul-add q b (last % b) (mod-lt last some)))

-- for decimals at another scale, and powers of ten
pub ruleset rescaling = (cannot_be_rescaled, is_rescaled, loses_digits, keeps_digits, can_be_rescaled, rescaled_too_large)

pub ruleset powers = (power_as_signed, power_le, power_positive, power_parts)

-- of numbers of one sign the absolute values are added, of others one is subtracted from the other
pub same_signs : (b c : Bool) (x y : ℕ) → b ≡ c → signed_number b x +ℤ signed_number c y ≡ signed_number b (x + y)
same_signs b c x y e = grind (arith, ints)

pub other_signs : (b c : Bool) (x y : ℕ) → ¬ (b ≡ c) → y ≤ x → signed_number b x +ℤ signed_number c y ≡ signed_number b (x - y)
other_signs b c x y apart low = grind (arith, ints)

pub larger_second : (b c : Bool) (x y : ℕ) → ¬ (b ≡ c) → x < y → signed_number b x +ℤ signed_number c y ≡ signed_number c (y - x)
larger_second b c x y apart low = grind (arith, ints)

-- where the absolute values of numbers of one sign take more than 128 bits together, no sum fits
pub both_large : (b c : Bool) (x y : ℕ) → b ≡ c → ¬ (x + y < 2 ^ 128) → ¬ (FitsSigned w128 (signed_number b x +ℤ signed_number c y))
both_large b c x y e large = rw (same_signs b c x y e) (too_large b (x + y) (omega (arith, large)))

-- a sum with an absolute value of more than 128 bits is no `i128`
exceeds : (b c : Bool) (m n : ℕ) → (2 ^ 127 + n < m) ⊎ (2 ^ 127 + m < n) → ¬ (FitsSigned w128 (signed_number b m +ℤ signed_number c n))
exceeds false false m n far fits = omega (arith, ints)
exceeds false true m n far fits = omega (arith, ints)
exceeds true false m n far fits = omega (arith, ints)
exceeds true true m n far fits = omega (arith, ints)

-- no sum of decimals fits, where one of them takes more than 128 bits at the larger scale
pub first_large : (a b : FixedPoint) (e : Bool) (s : ℕ) → s ≡ max a.scale b.scale → unsigned_abs a.units ≤ 2 ^ 127
    → unsigned_abs b.units ≤ 2 ^ 127 →
    ¬ (dividend a s < 2 ^ 128) → ¬ (HasUnits (sum_with_sign a b e))
first_large a b e s same within other wide =
    let scale = max a.scale b.scale in
    let large = larger a scale within (subst (λ k. ¬ (dividend a k < 2 ^ 128)) same wide) in
    exceeds (is_negative a.units) e (dividend a scale) (dividend b scale)
    (inl (omega (arith, large.1, own_units b scale (omega (arith, large.0)))))

pub second_large : (a b : FixedPoint) (e : Bool) (s : ℕ) → s ≡ max a.scale b.scale → unsigned_abs a.units ≤ 2 ^ 127
    → unsigned_abs b.units ≤ 2 ^ 127 →
    ¬ (dividend b s < 2 ^ 128) → ¬ (HasUnits (sum_with_sign a b e))
second_large a b e s same within other wide =
    let scale = max a.scale b.scale in
    let large = larger b scale other (subst (λ k. ¬ (dividend b k < 2 ^ 128)) same wide) in
    exceeds (is_negative a.units) e (dividend a scale) (dividend b scale)
    (inr (omega (arith, large.1, own_units a scale (omega (arith, large.0)))))

pub sum_too_large : (a b : FixedPoint) (e c : Bool) (s x y : ℕ) → s ≡ max a.scale b.scale → c ≡ is_negative a.units → x ≡ dividend a s
    → y ≡ dividend b s →
    ¬ (FitsSigned w128 (signed_number c x +ℤ signed_number e y)) → ¬ (HasUnits (sum_with_sign a b e))
sum_too_large a b e c s x y same sign first second large = rw (← same, ← sign, ← first, ← second) large

pub sum_found : (a b : FixedPoint) (e c f : Bool) (s x y m : ℕ) (r : Option FixedPoint) → s ≡ max a.scale b.scale → c ≡ is_negative a.units
    → x ≡ dividend a s → y ≡ dividend b s →
    signed_number f m ≡ signed_number c x +ℤ signed_number e y →
    SomeIff r (HasUnits (fixed_point (signed_number f m) s)) (fixed_point (signed_number f m) s)
    → SomeIff r (HasUnits (sum_with_sign a b e)) (sum_with_sign a b e)
sum_found a b e c f s x y m r same sign first second sum found =
    let is : fixed_point (signed_number f m) s ≡ sum_with_sign a b e = cc in
    subst (λ d. SomeIff r (HasUnits d) d) is found

-- for sums
pub ruleset signs = (same_signs, other_signs, larger_second, both_large)

pub ruleset sums = (first_large, second_large, sum_too_large, sum_found)
