-- The number that digits write, whole and modulo a bound, and bytes of ASCII.
use Rattle.std.proofs.Common.{◌≡◌, ℕ, zero, suc, ◌+◌, ◌-◌, ◌*◌, ◌^◌, ◌<◌, ◌≤◌, true, false, List, [], ◌∷◌, length, refl, ap, ◌∙◌, sym}
use Rattle.std.proofs.Common.{arith, get_or, lit<, take, drop, ◌++◌, take-append-drop, append-nil}
use Rattle.std.specs.Char.{is_ascii, is_ascii_digit}
use Rattle.std.specs.Int.Digits.{number_from_digits, number_from_digits_after, AllBelowBase}
use Rattle.std.specs.List.{list_all, list_any}
use Rattle.std.specs.Str.{chars, IsAscii}
use Rattle.std.proofs.Math.Nat.{add-mul, mul_assoc, mul_comm, pow-le-pow_right, pow-suc}
use Rattle.std.proofs.lemmas.Bool.{and_parts}
use Rattle.std.proofs.lemmas.Bool.Decides.{nat_tests}
use Rattle.std.proofs.lemmas.Int.Digits.{number_after_append, number_after_ge, number_lt, number_push}
use Rattle.std.proofs.lemmas.List.{take_more}
use Rattle.std.proofs.lemmas.List.Elements.{All-head, All-tail}
use Rattle.std.proofs.lemmas.Str.{chars-IsAscii}
use Rattle.std.proofs.lemmas.Str.Ascii.{IsAscii-nil, IsAscii-cons}
use Rattle.num_format_int.proofs.DigitLemmas.{AreDigits}
use Rattle.num_format_parsing.specs.Parts.{number_in}
use Rattle.num_format_parsing.specs.Reading.{is_other_numeral}
use Rattle.num_format_parsing.specs.Shapes.{byte_digits}
use Rattle.num_format_parsing.proofs.DigitLemmas.{text_digits-below, text_digits-digit, text_digits-other}
use Rattle.num_format_parsing.proofs.ReadingLemmas.{digits_among-append, is_other_numeral-ascii}

pub ascii-all : (t : List ℕ) → list_all is_ascii t ≡ true → IsAscii t
ascii-all [] all = IsAscii-nil
ascii-all (b ∷ t) all =
    let both = and_parts (is_ascii b) (list_all is_ascii t) all in
    let test = both.0 in
    IsAscii-cons b t (grind (arith, nat_tests, test)) (ascii-all t both.1)

-- in ASCII there is no other numeral
no_other : (t : List ℕ) → IsAscii t → list_any is_other_numeral t ≡ false
no_other [] ascii = refl
no_other (b ∷ t) ascii = rw (is_other_numeral-ascii b (ascii zero)) (no_other t (λ i. ascii (suc i)))

-- nor among the characters of a text of such bytes
pub no_other-bytes : (t : List ℕ) → list_all is_ascii t ≡ true → list_any is_other_numeral (chars t) ≡ false
no_other-bytes t all = let ascii = ascii-all t all in ap (list_any is_other_numeral) (chars-IsAscii t ascii) ∙ no_other t ascii

-- digits as std's words for numbers take them
below_base : (ds : List ℕ) → AreDigits ds → AllBelowBase 10 ds
below_base [] below = tt
below_base (d ∷ ds) below = (All-head (λ x. x < 10) d ds below, below_base ds (All-tail (λ x. x < 10) d ds below))

-- digits after a number, and after nothing
pub number-after : (n : ℕ) (ds : List ℕ) → number_from_digits_after 10 n ds ≡ n * 10 ^ length ds + number_from_digits 10 ds
number-after n [] = omega arith
number-after n (d ∷ ds) =
    let power = 10 ^ length ds in
    let tenfold : n * 10 ^ length (d ∷ ds) ≡ n * 10 * power = ap (λ p. n * p) (pow-suc 10 (length ds) ∙ mul_comm power 10)
    ∙ sym (mul_assoc n 10 power) in
    let first : number_from_digits 10 (d ∷ ds) ≡ d * power + number_from_digits 10 ds =
    ap (λ k. number_from_digits_after 10 k ds) (let e : 0 * 10 + d ≡ d = omega arith in e) ∙ number-after d ds in
    omega (arith, number-after (n * 10 + d) ds, first, tenfold, add-mul (n * 10) d power)

-- a text of one byte
pub one-byte : (s : List ℕ) → length s ≡ 1 → s ≡ get_or s 0 0 ∷ []
one-byte [] one = absurd (omega arith)
one-byte (b ∷ []) one = refl
one-byte (b ∷ c ∷ s) one = absurd (omega arith)

-- few digits write a number below the bound
pub number-few : (bound safe : ℕ) (t : List ℕ) → length (byte_digits t) ≤ safe → 10 ^ safe ≤ bound → number_in t < bound
number-few bound safe t few fits =
    let most : 10 ^ length (byte_digits t) ≤ 10 ^ safe = pow-le-pow_right (lit< tt) {i = length (byte_digits t)} {j = safe} few in
    omega (arith, number_lt 10 (byte_digits t) (below_base (byte_digits t) (text_digits-below t)), most, fits)

-- the digits of the bytes before a place, one byte on
pub text_digits-on-digit : (t : List ℕ) (i : ℕ) → i < length t → is_ascii_digit (get_or t i 0) ≡ true
    → byte_digits (take (i + 1) t) ≡ byte_digits (take i t) ++ (get_or t i 0 - 48) ∷ []
text_digits-on-digit t i inside digit = ap byte_digits (take_more t i 0 inside) ∙ digits_among-append (take i t) (get_or t i 0 ∷ [])
    ∙ ap (λ ds. byte_digits (take i t) ++ ds) (text_digits-digit (get_or t i 0) [] digit)

pub text_digits-on-other : (t : List ℕ) (i : ℕ) → i < length t → is_ascii_digit (get_or t i 0) ≡ false
    → byte_digits (take (i + 1) t) ≡ byte_digits (take i t)
text_digits-on-other t i inside other = ap byte_digits (take_more t i 0 inside) ∙ digits_among-append (take i t) (get_or t i 0 ∷ [])
    ∙ ap (λ ds. byte_digits (take i t) ++ ds) (text_digits-other (get_or t i 0) [] other) ∙ append-nil (byte_digits (take i t))

-- and their number
pub number-digit : (t : List ℕ) (i : ℕ) → i < length t → is_ascii_digit (get_or t i 0) ≡ true
    → number_in (take (i + 1) t) ≡ number_in (take i t) * 10 + (get_or t i 0 - 48)
number-digit t i inside digit = ap (number_from_digits 10) (text_digits-on-digit t i inside digit)
    ∙ number_push 10 (byte_digits (take i t)) (get_or t i 0 - 48)

-- and at most that of all
pub number-before : (t : List ℕ) (i : ℕ) → number_in (take i t) ≤ number_in t
number-before t i =
    let whole = ap number_in (sym (take-append-drop i t)) ∙ ap (number_from_digits 10) (digits_among-append (take i t) (drop i t))
    ∙ number_after_append 10 0 (byte_digits (take i t)) (byte_digits (drop i t)) in
    omega (arith, number_after_ge 10 (number_in (take i t)) (byte_digits (drop i t)) (lit< tt), whole)
