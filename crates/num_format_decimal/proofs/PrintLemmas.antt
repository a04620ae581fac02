-- What is prepended to the decimals.
use Rattle.std.proofs.Common.{◌≡◌, ℕ, zero, suc, ◌+◌, ◌-◌, ◌≤◌, ◌/◌, ◌%◌, ◌^◌, List, [], ◌∷◌, ◌++◌, refl, ap, ◌∙◌, sym, arith, append-nil}
use Rattle.std.proofs.Common.{append_assoc}
use Rattle.std.proofs.Math.Nat.{div-div-eq-div-mul}
use Rattle.std.proofs.lemmas.List.{map-append}
use Rattle.std.proofs.lemmas.Nat.{pow-add}
use Rattle.num_format_int.specs.Groups.{last_digits, plain}
use Rattle.num_format_int.proofs.DigitLemmas.{last_digits-mod}
use Rattle.num_format_decimal.proofs.CanonicalLemmas.{quotient-suc}
use Rattle.num_format_decimal.proofs.ScaleLemmas.{power_le}
use Rattle.num_format_decimal.proofs.TextLemmas.{mark-some}

-- the last digits of a number, and those before them
digits_joined : (k j n : ℕ) → last_digits j (n / 10 ^ k) ++ last_digits k n ≡ last_digits (k + j) n
digits_joined zero j n =
    let whole : n / 10 ^ 0 ≡ n = omega arith in
    let none : zero + j ≡ j = omega arith in
    rw (whole, none) (append-nil (last_digits j n))
digits_joined (suc k) j n =
    let more : suc k + j ≡ suc (k + j) = omega arith in
    rw (quotient-suc k n, more, ← append_assoc (last_digits j (n / 10 / 10 ^ k)) (last_digits k (n / 10)) (n % 10 ∷ []))
    (ap (λ ds. ds ++ (n % 10 ∷ [])) (digits_joined k j (n / 10)))

-- a number without its last digits, and without some more
pub quotient_more : (n k : ℕ) → n / 10 ^ k / 10 ≡ n / 10 ^ (k + 1)
quotient_more n k = div-div-eq-div-mul n (10 ^ k) 10 ∙ ap (λ d. n / d) (sym (pow-add 10 k 1))

pub quotient_two : (n k : ℕ) → n / 10 ^ k / 100 ≡ n / 10 ^ (k + 2)
quotient_two n k = div-div-eq-div-mul n (10 ^ k) 100 ∙ ap (λ d. n / d) (sym (pow-add 10 k 2))

-- digits before the last digits of a number, and before a text
pub digits_before : (k j n left : ℕ) (part text new old : List ℕ) → left ≡ n / 10 ^ k → text ≡ plain (last_digits k n) ++ old
    → part ≡ plain (last_digits j left) → new ≡ part ++ text →
    new ≡ plain (last_digits (k + j) n) ++ old
digits_before k j n left part text new old is_left before is_part after =
    let high = last_digits j (n / 10 ^ k) in
    cc (append_assoc (plain high) (plain (last_digits k n)) old, map-append (λ d. 48 + d) high (last_digits k n), digits_joined k j n)

pub two_digits_more : (k n left : ℕ) (pair text new old : List ℕ) → left ≡ n / 10 ^ k → text ≡ plain (last_digits k n) ++ old
    → pair ≡ (48 + left % 100 / 10) ∷ (48 + left % 100 % 10) ∷ [] →
    new ≡ pair ++ text → new ≡ plain (last_digits (k + 2) n) ++ old
two_digits_more k n left pair text new old is_left before is_pair after =
    let high : left % 100 / 10 ≡ left / 10 % 10 = omega arith in
    let low : left % 100 % 10 ≡ left % 10 = omega arith in
    digits_before k 2 n left pair text new old is_left before (cc) after

-- digits of a number in two parts, of which the second has nineteen
pub wide_digits : (count n high low : ℕ) (old one two : List ℕ) → 19 ≤ count → old ≡ [] → high ≡ n / 10 ^ 19 → low ≡ n % 10 ^ 19
    → one ≡ plain (last_digits 19 low) ++ old → two ≡ plain (last_digits (count - 19) high) ++ one →
    two ≡ plain (last_digits count n)
wide_digits count n high low old one two many empty is_high is_low first second =
    let rest = count - 19 in
    let all : 19 + rest ≡ count = omega arith in
    let begin : one ≡ plain (last_digits 19 n) ++ old = cc (last_digits-mod 19 n) in
    cc (
      digits_before 19 rest n high (plain (last_digits rest high)) one two old is_high begin refl second,
      append-nil (plain (last_digits count n)),
    )

pub ruleset printing = (two_digits_more, quotient_more, quotient_two, digits_before)

pub ruleset wide = (wide_digits, power_le, mark-some)
