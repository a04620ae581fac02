-- The two parts of a value, and their order.
use Rattle.std.proofs.Common.{◌≡◌, ℕ, suc, ◌+◌, ◌-◌, ◌*◌, ◌/◌, ◌%◌, ◌^◌, ◌<◌, ◌≤◌, ap, ◌∙◌, sym, arith, ℤ, pos, negsuc, unsigned_abs}
use Rattle.std.specs.Prelude.{◌*ℤ◌, neg_ℤ}
use Rattle.std.specs.Int.{int_div_euclid, int_rem_euclid}
use Rattle.std.proofs.Math.Nat.{div-add-mod, mod-lt, mul-le-mul_right}
use Rattle.std.proofs.lemmas.Nat.{pow-add, div-mul-add, mod-mul-add}
use Rattle.num_format_decimal.specs.FixedPoint.{FixedPoint}
use Rattle.num_format_decimal.specs.Values.{rest_of, whole_part}
use Rattle.num_format_decimal.proofs.ScaleLemmas.{power_positive, power_nonzero, power_not_minus_one}
use Rattle.std.proofs.lemmas.Int.{to_z-of_z}

-- both powers of ten together
pub scale_parts : (s : ℕ) → s ≤ 38 → 10 ^ s * 10 ^ (38 - s) ≡ 10 ^ 38
scale_parts s few =
    let all : s + (38 - s) ≡ 38 = omega arith in
    sym (pow-add 10 s (38 - s)) ∙ ap (λ e. 10 ^ e) all

-- multiples, divided by a multiple
multiple : (a p k : ℕ) → 0 < k → 0 < p → (a * k / (p * k) ≡ a / p) × (a * k % (p * k) ≡ a % p * k)
multiple a p k some positive =
    let split : a * k ≡ a / p * (p * k) + a % p * k = omega (arith, ap (λ n. n * k) (div-add-mod a p)) in
    let below : a % p * k < p * k = omega (arith, mul-le-mul_right k (mod-lt a positive)) in
    rw split (div-mul-add (a / p) (p * k) (a % p * k) below, mod-mul-add (a / p) (p * k) (a % p * k) below)

-- and one less than a multiple
before : (a p k t : ℕ) → 0 < k → 0 < p → p ≡ t + 1 + a % p
    → ((suc a * k - 1) / (p * k) ≡ a / p) × (p * k - 1 - (suc a * k - 1) % (p * k) ≡ t * k)
before a p k t some positive rest =
    let low = a % p * k + (k - 1) in
    let split : suc a * k - 1 ≡ a / p * (p * k) + low = omega (arith, ap (λ n. n * k) (div-add-mod a p)) in
    let below : low < p * k = omega (arith, mul-le-mul_right k (mod-lt a positive)) in
    let left = mod-mul-add (a / p) (p * k) low below in
    rw split (div-mul-add (a / p) (p * k) low below, omega (arith, left, ap (λ n. n * k) rest))

pub negative_multiple : (a k : ℕ) → 0 < k → negsuc a *ℤ pos k ≡ negsuc (suc a * k - 1)
negative_multiple a k some =
    let more : suc a * k ≡ suc (suc a * k - 1) = omega arith in
    ap (λ n. neg_ℤ (pos n)) more

-- the parts of a multiple
parts_scaled : (z : ℤ) (p k : ℕ) → 0 < k → 0 < p → (int_div_euclid (z *ℤ pos k) (pos (p * k)) ≡ int_div_euclid z (pos p))
    × (unsigned_abs (int_rem_euclid (z *ℤ pos k) (pos (p * k))) ≡ unsigned_abs (int_rem_euclid z (pos p)) * k)
parts_scaled (pos a) p k some positive = let parts = multiple a p k some positive in (ap pos parts.0, parts.1)
parts_scaled (negsuc a) p k some positive =
    let parts = before a p k (p - 1 - a % p) some positive (omega (arith, mod-lt a positive)) in
    rw (negative_multiple a k some) (ap negsuc parts.0, parts.1)

-- those of a decimal are those of its value
pub parts_of_value : (d : FixedPoint) (s : ℕ) → s ≡ d.scale → s ≤ 38 → (int_div_euclid d.units (pos (10 ^ s)) ≡ whole_part d)
    × (unsigned_abs (int_rem_euclid d.units (pos (10 ^ s))) * 10 ^ (38 - s) ≡ rest_of d)
parts_of_value d s scale few =
    let parts = parts_scaled d.units (10 ^ s) (10 ^ (38 - s)) (power_positive (38 - s)) (power_positive s) in
    (cc (parts.0, scale_parts s few), cc (parts.1, scale_parts s few))

-- the parts of a decimal
pub whole_found : (d : FixedPoint) (u one w : ℤ) (s : ℕ) → s ≡ d.scale → s ≤ 38 → u ≡ d.units → one ≡ pos (10 ^ s)
    → w ≡ int_div_euclid u one → w ≡ whole_part d
whole_found d u one w s scale few units power whole = cc ((parts_of_value d s scale few).0)

-- what is left takes less than one
pub rest_small : (r one : ℤ) (s x k : ℕ) → s ≤ 38 → one ≡ pos (10 ^ s) → unsigned_abs r < unsigned_abs one → x ≡ unsigned_abs r
    → k ≡ 10 ^ (38 - s) → x * k < 2 ^ 128
rest_small r one s x k few power below size unit =
    let above : suc x ≤ 10 ^ s = omega (arith, below, size, ap unsigned_abs power) in
    omega (arith, mul-le-mul_right (10 ^ (38 - s)) above, scale_parts s few, power_positive (38 - s), ap (λ n. x * n) unit)

-- for the parts of a value
pub ruleset parts = (whole_found, rest_small, parts_of_value, to_z-of_z, power_nonzero, power_not_minus_one)
