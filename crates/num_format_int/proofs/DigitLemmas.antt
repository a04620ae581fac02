-- Laws of the digits of a number.
use Rattle.std.proofs.Common.{◌≡◌, ℕ, zero, suc, ◌+◌, ◌/◌, ◌*◌, ◌%◌, ◌^◌, ◌<◌, ◌≤◌, true, false, ◌⊎◌, inl, inr, List, [], ◌∷◌, ◌++◌, length}
use Rattle.std.proofs.Common.{refl, ap, append-nil, append_assoc, ◌∙◌, sym, arith, length-append}
use Rattle.std.specs.Prelude.{nat_lt, All}
use Rattle.std.specs.Int.Digits.{number_from_digits}
use Rattle.std.proofs.lemmas.Bool.Decides.{nat_tests}
use Rattle.std.proofs.lemmas.Int.Digits.{number_push}
use Rattle.std.proofs.lemmas.List.{length-map}
use Rattle.std.proofs.lemmas.List.Elements.{All-nil, All-cons, All-push}
use Rattle.std.proofs.Math.Nat.{pow-suc, pow-succ', div-div-eq-div-mul, mul-le-mul}
use Rattle.std.proofs.lemmas.Nat.{div-mul-add, mod-mul-add}
use Rattle.std.proofs.Math.Arith.{mod-mul}
use Rattle.num_format_int.specs.Digits.{digits, digits_in}
use Rattle.num_format_int.specs.Groups.{last_digits, plain}

one_or_more_digits : (n : ℕ) → (n < 10) ⊎ (10 ≤ n)
one_or_more_digits n = grind arith

digits_in-small : (turns n : ℕ) → n < 10 → digits_in turns n ≡ n ∷ []
digits_in-small zero n small = cc
digits_in-small (suc turns) n small = let test : nat_lt n 10 ≡ true = grind (arith, nat_tests) in rw (test, digits_in)

digits_in-more : (turns n : ℕ) → 10 ≤ n → digits_in (suc turns) n ≡ digits_in turns (n / 10) ++ (n % 10 ∷ [])
digits_in-more turns n more = let test : nat_lt n 10 ≡ false = grind (arith, nat_tests) in rw (test, digits_in)

-- any number of turns that is enough gives the same digits
digits_in-turns : (a b n : ℕ) → n ≤ a → n ≤ b → digits_in a n ≡ digits_in b n
digits_in-turns zero b n in_a in_b = sym (digits_in-small b n (omega arith))
digits_in-turns (suc a) zero n in_a in_b = digits_in-small (suc a) n (omega arith)
digits_in-turns (suc a) (suc b) n in_a in_b =
    elim (one_or_more_digits n) [
      | inl small ↦ digits_in-small (suc a) n small ∙ sym (digits_in-small (suc b) n small)
      | inr more ↦
          digits_in-more a n more
          ∙ ap (λ ds. ds ++ (n % 10 ∷ [])) (digits_in-turns a b (n / 10) (omega arith) (omega arith))
          ∙ sym (digits_in-more b n more)
    ]

-- below ten a number is its own digit
pub digits-small : (n : ℕ) → n < 10 → digits n ≡ n ∷ []
unfolding digits
digits-small n small = digits_in-small n n small

-- from ten on, the digits of n / 10 and then n % 10
pub digits-more : (n : ℕ) → 10 ≤ n → digits n ≡ digits (n / 10) ++ (n % 10 ∷ [])
unfolding digits
digits-more zero more = absurd (omega arith)
digits-more (suc m) more =
    digits_in-more m (suc m) more
    ∙ ap (λ ds. ds ++ (suc m % 10 ∷ [])) (digits_in-turns m (suc m / 10) (suc m / 10) (omega arith) (omega arith))

by_digits_in : (P : ℕ → Type 0) → ((n : ℕ) → n < 10 → P n) → ((n : ℕ) → 10 ≤ n → P (n / 10) → P n) → (turns n : ℕ) → n ≤ turns → P n
by_digits_in P one more zero n within = one n (omega arith)
by_digits_in P one more (suc turns) n within =
    elim (one_or_more_digits n) [
      | inl small ↦ one n small
      | inr large ↦ more n large (by_digits_in P one more turns (n / 10) (omega arith))
    ]

-- what holds of one digit, and of a number if it holds of the number without its last digit, holds of every number
pub by_digits : (P : ℕ → Type 0) → ((n : ℕ) → n < 10 → P n) → ((n : ℕ) → 10 ≤ n → P (n / 10) → P n) → (n : ℕ) → P n
by_digits P one more n = by_digits_in P one more n n (omega arith)

-- one more digit
pub length-digits-more : (n : ℕ) → 10 ≤ n → length (digits n) ≡ length (digits (n / 10)) + 1
length-digits-more n more = ap length (digits-more n more) ∙ length-append (digits (n / 10)) (n % 10 ∷ [])

-- a number has a digit
pub digits_given : (n : ℕ) → 0 < length (digits n)
digits_given = by_digits (λ n. 0 < length (digits n))
    (λ n small. omega (arith, ap length (digits-small n small)))
    (λ n large less. omega (arith, length-digits-more n large))

-- a number below ten to the k has at most k digits
pub length-digits-le : (k n : ℕ) → 0 < k → n < 10 ^ k → length (digits n) ≤ k
length-digits-le zero n some below = absurd (omega arith)
length-digits-le (suc zero) n some below = omega (arith, ap length (digits-small n (omega arith)))
length-digits-le (suc (suc k)) n some below =
    elim (one_or_more_digits n) [
      | inl small ↦ omega (arith, ap length (digits-small n small))
      | inr large ↦
          let below_less : n / 10 < 10 ^ suc k = omega (arith, pow-suc 10 (suc k)) in
          omega (arith, length-digits-more n large, length-digits-le (suc k) (n / 10) (omega arith) below_less)
    ]

-- a number of 128 bits has at most 39 digits
pub length-digits-le39 : (n : ℕ) → n < 2 ^ 128 → length (digits n) ≤ 39
length-digits-le39 n fits = length-digits-le 39 n (omega arith) (omega arith)

-- the digits of a number write it
pub number_from_digits-digits : (n : ℕ) → number_from_digits 10 (digits n) ≡ n
number_from_digits-digits = by_digits (λ n. number_from_digits 10 (digits n) ≡ n)
    (λ n small. rw (digits-small n small) (omega arith))
    (λ n large less. rw (digits-more n large, number_push 10 (digits (n / 10)) (n % 10), less) (omega arith))

pow_pos10 : (k : ℕ) → 1 ≤ 10 ^ k
pow_pos10 zero = omega arith
pow_pos10 (suc k) = omega (arith, pow-suc 10 k, pow_pos10 k)

-- a number of more than k digits is the others and then the last k
pub digits-split : (k n : ℕ) → 10 ^ k ≤ n → digits n ≡ digits (n / 10 ^ k) ++ last_digits k n
digits-split zero n some = let whole : n / 10 ^ 0 ≡ n = omega arith in rw (whole, append-nil)
digits-split (suc k) n some =
    let large : 10 ≤ n = omega (arith, pow-suc 10 k, pow_pos10 k) in
    let more : 10 ^ k ≤ n / 10 = omega (arith, pow-suc 10 k) in
    let whole : n / 10 / 10 ^ k ≡ n / 10 ^ suc k = div-div-eq-div-mul n 10 (10 ^ k) ∙ ap (λ d. n / d) (sym (pow-succ' 10 k)) in
    digits-more n large
    ∙ ap (λ ds. ds ++ (n % 10 ∷ [])) (digits-split k (n / 10) more)
    ∙ rw (whole, append_assoc)

-- they are k
pub length-last_digits : (k n : ℕ) → length (last_digits k n) ≡ k
length-last_digits zero n = refl
length-last_digits (suc k) n = simp (length-append, length-last_digits k (n / 10)) (omega arith)

-- the lengths add up
pub length-digits-split : (k n : ℕ) → 10 ^ k ≤ n → length (digits n) ≡ length (digits (n / 10 ^ k)) + k
length-digits-split k n some =
    omega (arith, ap length (digits-split k n some), length-append (digits (n / 10 ^ k)) (last_digits k n), length-last_digits k n)

-- the digits of a number of two digits
pub digits-two : (n : ℕ) → 10 ≤ n → n < 100 → digits n ≡ (n / 10) ∷ (n % 10) ∷ []
digits-two n some below = rw (digits-more n some, digits-small (n / 10) (omega arith))

-- and of three
pub digits-three : (n : ℕ) → 100 ≤ n → n < 1000 → digits n ≡ (n / 100) ∷ (n % 100 / 10) ∷ (n % 100 % 10) ∷ []
digits-three n some below =
    let high : n / 10 / 10 ≡ n / 100 = omega arith in
    let middle : n / 10 % 10 ≡ n % 100 / 10 = omega arith in
    let low : n % 10 ≡ n % 100 % 10 = omega arith in
    rw (digits-more n (omega arith), digits-two (n / 10) (omega arith) (omega arith), high, middle, low)

-- and of four
pub digits-four : (n : ℕ) → 1000 ≤ n → n < 10000 → digits n ≡ (n / 100 / 10) ∷ (n / 100 % 10) ∷ (n % 100 / 10) ∷ (n % 100 % 10) ∷ []
digits-four n some below =
    let high : n / 10 / 100 ≡ n / 100 / 10 = omega arith in
    let second : n / 10 % 100 / 10 ≡ n / 100 % 10 = omega arith in
    let third : n / 10 % 100 % 10 ≡ n % 100 / 10 = omega arith in
    let low : n % 10 ≡ n % 100 % 10 = omega arith in
    rw (digits-more n (omega arith), digits-three (n / 10) (omega arith) (omega arith), high, second, third, low)

-- from the k-th power of ten on, a number has more than k digits
pub length-digits-gt : (k n : ℕ) → 10 ^ k ≤ n → k < length (digits n)
length-digits-gt k n some = omega (arith, length-digits-split k n some, digits_given (n / 10 ^ k))

-- the length of a separator, a group of k digits and a text
pub length-put_group : (s b : List ℕ) (k n : ℕ) → length (s ++ (plain (last_digits k n) ++ b)) ≡ length s + k + length b
length-put_group s b k n = simp (length-append, length-map, length-last_digits) (omega arith)

-- more digits to the left do not change the last k
pub last_digits-mod : (k n : ℕ) → last_digits k (n % 10 ^ k) ≡ last_digits k n
last_digits-mod zero n = refl
last_digits-mod (suc k) n =
    let both : n % 10 ^ suc k ≡ (n / 10 % 10 ^ k) * 10 + n % 10 = ap (λ p. n % p) (pow-suc 10 k) ∙ mod-mul n (pow_pos10 k) (omega arith) in
    let first : n % 10 ^ suc k / 10 ≡ n / 10 % 10 ^ k = omega arith in
    let last : n % 10 ^ suc k % 10 ≡ n % 10 = omega arith in
    rw (first, last, last_digits-mod k (n / 10))

-- the digits of a number, and then k digits
pub digits-joined : (k first part : ℕ) → 0 < first → part < 10 ^ k → digits (first * 10 ^ k + part) ≡ digits first ++ last_digits k part
digits-joined k first part some below =
    let large : 1 * 10 ^ k ≤ first * 10 ^ k = mul-le-mul (omega arith) (omega arith) in
    digits-split k (first * 10 ^ k + part) (omega arith)
    ∙ rw (div-mul-add first (10 ^ k) part below, ← last_digits-mod k (first * 10 ^ k + part), mod-mul-add first (10 ^ k) part below)

-- how many these are
pub length-joined : (k first part : ℕ) → 0 < first → part < 10 ^ k → length (digits (first * 10 ^ k + part)) ≡ length (digits first) + k
length-joined k first part some below =
    omega (
      arith,
      ap length (digits-joined k first part some below),
      length-append (digits first) (last_digits k part),
      length-last_digits k part,
    )

-- a digit 1 and then k digits
pub digits-leading_one : (k part : ℕ) → part < 10 ^ k → digits (10 ^ k + part) ≡ 1 ∷ last_digits k part
digits-leading_one k part below =
    let once : 1 * 10 ^ k ≡ 10 ^ k = omega arith in
    (rw once at (digits-joined k 1 part (omega arith) below)) ∙ ap (λ ds. ds ++ last_digits k part) (digits-small 1 (omega arith))

-- how many these are
pub length-leading_one : (k leading part : ℕ) → leading ≡ 10 ^ k → part < 10 ^ k → length (digits (leading + part)) ≡ k + 1
length-leading_one k leading part power below = rw (power, digits-leading_one k part below, length-last_digits k part) (omega arith)

-- numbers below ten
abbrev pub AreDigits : List ℕ → Type 0
AreDigits ds = All (λ d. d < 10) ds

-- the digits of a number are below ten
pub digits-below_ten : (n : ℕ) → AreDigits (digits n)
digits-below_ten = by_digits (λ n. AreDigits (digits n))
    (λ n small. rw (digits-small n small) (All-cons (λ d. d < 10) n [] small (All-nil (λ d. d < 10))))
    (λ n large less. rw (digits-more n large) (All-push (λ d. d < 10) (digits (n / 10)) (n % 10) less (omega arith)))

-- for the room that digits take
pub ruleset rooms = (length-digits-le39, digits_given)
