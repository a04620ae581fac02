-- The length of a decimal's text, and its decimals.
use Rattle.std.proofs.Common.{◌≡◌, ℕ, ◌+◌, ◌/◌, ◌^◌, ◌<◌, ◌≤◌, [], length, ◌∙◌, arith, inl, inr, length-append, unsigned_abs, zero, suc}
use Rattle.std.proofs.Common.{◌-◌, ◌*◌, ap, refl, sym, ◌∷◌, take_all, length-drop}
use Rattle.std.specs.Prelude.{nat_lt, if◌then◌else◌}
use Rattle.std.specs.Int.{is_negative}
use Rattle.std.proofs.Math.Nat.{mul-le-mul, div-eq_of_lt, mod-lt}
use Rattle.std.proofs.lemmas.List.{length-map}
use Rattle.std.proofs.lemmas.Bool.{cases_lt}
use Rattle.std.proofs.lemmas.Bool.Decides.{nat_tests}
use Rattle.num_format_text.specs.Format.{FormatData}
use Rattle.num_format_int.specs.Digits.{digits}
use Rattle.num_format_int.specs.Groups.{last_digits, plain}
use Rattle.num_format_int.specs.Text.{body_of}
use Rattle.num_format_int.proofs.DigitLemmas.{digits-small, length-digits-le39, length-digits-split, length-last_digits, digits_given}
use Rattle.num_format_int.proofs.DigitLemmas.{length-digits-le, last_digits-mod}
use Rattle.num_format_int.proofs.GroupedLemmas.{length-grouped, of_either, separators-le18, grouped-short}
use Rattle.num_format_decimal.specs.FixedPoint.{FixedPoint}
use Rattle.num_format_decimal.specs.Text.{decimal_text, decimals_of, mark_at, unsigned_text}
use Rattle.num_format_int.specs.Grouped.{separators}
use Rattle.num_format_decimal.proofs.ScaleLemmas.{power_positive}
use Rattle.std.proofs.lemmas.Str.{IsCharBoundary-start, IsUtf8-had}

-- so many decimals
pub length-plain : (k n : ℕ) → length (plain (last_digits k n)) ≡ k
length-plain k n = length-map (last_digits k n) (λ d. 48 + d) ∙ length-last_digits k n

-- the mark stands before some decimals
pub mark-some : (f : FormatData) (k : ℕ) → 0 < k → mark_at f k ≡ f.decimal
mark-some f k some = grind (arith, nat_tests)

-- the decimals and the digits before them are at most 39 together
pub whole_digits : (n k : ℕ) → n < 2 ^ 128 → k ≤ 38 → length (digits (n / 10 ^ k)) + k ≤ 39
whole_digits n k small few =
    elim (cases_lt n (10 ^ k)) [
      | inl below ↦ rw (div-eq_of_lt below, digits-small 0 (omega arith)) (omega arith)
      | inr large ↦ omega (arith, length-digits-split k n large, length-digits-le39 n small)
    ]

-- at most so many bytes
pub unsigned_text-length : (f : FormatData) (n k : ℕ) →
    let count = length (digits (n / 10 ^ k)) in
    length (unsigned_text f n k) ≡ count + separators f.grouping count * length f.separator + (length (mark_at f k) + k)
unsigned_text-length f n k =
    omega (
      arith,
      length-append (body_of f (n / 10 ^ k)) (decimals_of f n k),
      length-append (mark_at f k) (plain (last_digits k n)),
      length-grouped f.grouping f.separator (digits (n / 10 ^ k)),
      length-plain k n,
    )

pub unsigned_text-fits : (f : FormatData) (n k : ℕ) → length f.separator ≤ 8 → length f.decimal ≤ 8 → n ≤ 2 ^ 127 → k ≤ 38
    → length (unsigned_text f n k) + 8 ≤ 199
unsigned_text-fits f n k separator mark small few =
    let count = length (digits (n / 10 ^ k)) in
    let most : count + k ≤ 39 = whole_digits n k (omega arith) few in
    let least = of_either (λ t. length t ≤ 8) (omega arith) (nat_lt 0 k) f.decimal mark in
    omega (arith, unsigned_text-length f n k, mul-le-mul (separators-le18 f.grouping count (omega arith)) separator, least)

pub decimal_text-fits : (f : FormatData) (d : FixedPoint) → length f.separator ≤ 8 → length f.decimal ≤ 8
    → length (if is_negative d.units then f.minus_sign else []) ≤ 8 → unsigned_abs d.units ≤ 2 ^ 127 → d.scale ≤ 38 →
    length (decimal_text f d) ≤ 199
decimal_text-fits f d separator mark sign small few =
    let text = unsigned_text f (unsigned_abs d.units) d.scale in
    let fits = unsigned_text-fits f (unsigned_abs d.units) d.scale separator mark small few in
    omega (arith, length-append (if is_negative d.units then f.minus_sign else []) text, fits)

-- the length of a text, by its parts
pub decimal_text-length : (f : FormatData) (d : FixedPoint) →
    let count = length (digits (unsigned_abs d.units / 10 ^ d.scale)) in
    length (decimal_text f d)
    ≡ length (if is_negative d.units then f.minus_sign else []) + (count + separators f.grouping count * length f.separator) +
    (length (mark_at f d.scale) + d.scale)
decimal_text-length f d =
    let text = unsigned_text f (unsigned_abs d.units) d.scale in
    let unsigned = unsigned_text-length f (unsigned_abs d.units) d.scale in
    omega (arith, length-append (if is_negative d.units then f.minus_sign else []) text, unsigned)

-- of more digits than decimals, the others stand before these
pub digits_before : (n k all : ℕ) → all ≡ length (digits n) → k < all → all - k ≡ length (digits (n / 10 ^ k))
digits_before n zero all count more = let whole : n / 10 ^ 0 ≡ n = omega arith in omega (arith, count, ap (λ m. length (digits m)) whole)
digits_before n (suc k) all count more =
    elim (cases_lt n (10 ^ suc k)) [
      | inl below ↦ absurd (omega (arith, count, more, length-digits-le (suc k) n (omega arith) below))
      | inr large ↦ omega (arith, count, length-digits-split (suc k) n large)
    ]

-- of fewer, none does, and a zero stands there
pub digit_before : (n k all : ℕ) → all ≡ length (digits n) → all ≤ k → 1 ≡ length (digits (n / 10 ^ k))
digit_before n k all count few =
    elim (cases_lt n (10 ^ k)) [
      | inl below ↦ rw (div-eq_of_lt below, digits-small 0 (omega arith)) refl
      | inr large ↦ absurd (omega (arith, count, few, length-digits-split k n large, digits_given (n / 10 ^ k)))
    ]

pub one-digit : (f : FormatData) (n : ℕ) → n < 10 → (48 + n) ∷ [] ≡ body_of f n
one-digit f n small = rw (digits-small n small) (sym (grouped-short f.grouping f.separator (n ∷ []) (omega arith)))

pub ruleset texts = (one-digit, unsigned_text-fits)

pub ruleset lengths = (decimal_text-length, digits_before, digit_before)

pub ruleset wholes = (whole_digits, last_digits-mod, mod-lt, power_positive)

-- for the bytes of a buffer
pub ruleset buffers = (IsCharBoundary-start, IsUtf8-had, take_all, length-drop)
