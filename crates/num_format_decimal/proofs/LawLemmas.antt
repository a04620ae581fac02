-- The laws of decimals.
use Rattle.std.proofs.Common.{◌≡◌, ℕ, suc, ◌+◌, ◌-◌, ◌*◌, ◌/◌, ◌^◌, ◌<◌, ◌≤◌, length, refl, ap, ◌∙◌, sym, arith, ℤ, pos, negsuc}
use Rattle.std.specs.Prelude.{◌*ℤ◌, neg_ℤ, ◌<ℤ◌}
use Rattle.std.specs.Int.{is_negative}
use Rattle.std.specs.Cmp.{int_cmp_is}
use Rattle.std.specs.Ordering.{int_cmp, MatchOrdering}
use Rattle.std.specs.declared.cmp.Ordering.{Ordering}
use Rattle.std.specs.declared.cmp.Ordering.TheVariants.{Less, Equal, Greater}
use Rattle.std.proofs.lemmas.Cmp.{int_ranked}
use Rattle.num_format_text.specs.declared.grouping.Grouping.TheVariants.{Indian}
use Rattle.num_format_text.specs.Format.{FormatData, IsWithinCapacity}
use Rattle.num_format_int.specs.Digits.{digits}
use Rattle.num_format_int.specs.Text.{body_of}
use Rattle.num_format_int.proofs.GroupedLemmas.{length-grouped, of_either}
use Rattle.num_format_decimal.specs.FixedPoint.{FixedPoint, fixed_point}
use Rattle.num_format_decimal.specs.Laws.{OrderLaw, TextBoundLaw, MarkNeededLaw}
use Rattle.num_format_decimal.specs.Text.{decimal_text}
use Rattle.num_format_decimal.specs.Values.{HasUnits, value_of}
use Rattle.num_format_decimal.proofs.PartLemmas.{negative_multiple, scale_parts}
use Rattle.num_format_decimal.proofs.ScaleLemmas.{abs_le, power_positive}
use Rattle.num_format_decimal.proofs.TextLemmas.{decimal_text-length, decimal_text-fits}
use Rattle.std.proofs.lemmas.Int.{ints}
use Rattle.std.proofs.lemmas.Nat.{pow-add}
use Rattle.std.proofs.Math.Nat.{mul-le-mul_right}

-- multiples of two numbers are in their order
scaled_less : (x y : ℤ) (k : ℕ) → 0 < k → x <ℤ y → (x *ℤ pos k) <ℤ (y *ℤ pos k)
scaled_less (pos a) (pos b) k some less = let next : a + 1 ≤ b = omega (arith, ints) in omega (arith, ints, mul-le-mul_right k next)
scaled_less (pos a) (negsuc b) k some less = omega (arith, ints)
scaled_less (negsuc a) (pos b) k some less = omega (arith, ints)
scaled_less (negsuc a) (negsuc b) k some less = let next : b + 1 ≤ a = omega (arith, ints) in omega (arith, ints, mul-le-mul_right k next)

scaled_rank : (x y : ℤ) (k : ℕ) (o : Ordering) → 0 < k → MatchOrdering o (x <ℤ y) (x ≡ y) (y <ℤ x)
    → MatchOrdering o ((x *ℤ pos k) <ℤ (y *ℤ pos k)) (x *ℤ pos k ≡ y *ℤ pos k) ((y *ℤ pos k) <ℤ (x *ℤ pos k))
scaled_rank x y k Less some h = scaled_less x y k some h
scaled_rank x y k Equal some h = ap (λ z. z *ℤ pos k) h
scaled_rank x y k Greater some h = scaled_less y x k some h

scaled_cmp : (x y : ℤ) (k : ℕ) → 0 < k → int_cmp (x *ℤ pos k) (y *ℤ pos k) ≡ int_cmp x y
scaled_cmp x y k some = sym (int_cmp_is _ _ (int_cmp x y) (scaled_rank x y k (int_cmp x y) some (int_ranked x y _ refl)))

-- two factors are one
two_factors : (z : ℤ) (j k : ℕ) → 0 < j → z *ℤ pos j *ℤ pos k ≡ z *ℤ pos (j * k)
two_factors (pos a) j k some =
    let product : a * j * k ≡ a * (j * k) = omega arith in
    ap pos product
two_factors (negsuc a) j k some =
    let whole : suc (suc a * j - 1) ≡ suc a * j = omega arith in
    let product : suc a * j * k ≡ suc a * (j * k) = omega arith in
    ap (λ z. z *ℤ pos k) (negative_multiple a j some) ∙ ap (λ n. neg_ℤ (pos n)) (ap (λ n. n * k) whole ∙ product)

-- the value times both powers of ten
value_times : (d : FixedPoint) (t : ℕ) → d.scale ≤ 38 → value_of d *ℤ pos (10 ^ d.scale * 10 ^ t) ≡ d.units *ℤ pos (10 ^ t) *ℤ pos (10 ^ 38)
value_times d t few =
    let j = 10 ^ (38 - d.scale) in
    let k = 10 ^ t in
    let together : j * (10 ^ d.scale * k) ≡ k * 10 ^ 38 = omega (arith, ap (λ n. k * n) (scale_parts d.scale few)) in
    cc (two_factors d.units j (10 ^ d.scale * k) (power_positive (38 - d.scale)), two_factors d.units k (10 ^ 38) (power_positive t))

pub order_law : OrderLaw
order_law a b few other =
    let p = 10 ^ a.scale in
    let q = 10 ^ b.scale in
    let both : 0 < p * q = rw (pow-add 10 a.scale b.scale) at (power_positive (a.scale + b.scale)) in
    let turned : q * p ≡ p * q = omega arith in
    cc (
      scaled_cmp (value_of a) (value_of b) (p * q) both,
      scaled_cmp (a.units *ℤ pos q) (b.units *ℤ pos p) (10 ^ 38) (power_positive 38),
      value_times a b.scale few,
      value_times b a.scale other,
    )

text_fits : (f : FormatData) (d : FixedPoint) → IsWithinCapacity f → d.scale ≤ 38 → HasUnits d → length (decimal_text f d) ≤ 199
text_fits f d within few fits =
    decimal_text-fits f d within.separator within.decimal (of_either (λ t. length t ≤ 8) (omega arith)
    (is_negative d.units) f.minus_sign within.minus_sign) (abs_le d.units fits) few

longest_body : length (digits (2 ^ 127 / 10)) ≡ 38
unfolding digits
longest_body = refl

text_reached : (f : FormatData) → f.grouping ≡ Indian → length f.separator ≡ 8 → length f.minus_sign ≡ 8 → length f.decimal ≡ 8
    → length (decimal_text f (fixed_point (negsuc (2 ^ 127 - 1)) 1)) ≡ 199
text_reached f indian separator minus_sign mark =
    let body : length (body_of f (2 ^ 127 / 10)) ≡ 182 =
    length-grouped f.grouping f.separator (digits (2 ^ 127 / 10)) ∙ rw (longest_body, indian, separator) in
    omega (
      arith,
      decimal_text-length f (fixed_point (negsuc (2 ^ 127 - 1)) 1),
      body,
      length-grouped f.grouping f.separator (digits (2 ^ 127 / 10)),
      minus_sign,
      mark,
    )

pub text_bound_law : TextBoundLaw
text_bound_law = record { bound = text_fits; reached = text_reached }

pub mark_needed_law : MarkNeededLaw
unfolding digits
mark_needed_law = record { separator = refl; digit = refl; empty = refl }
