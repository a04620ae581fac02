-- The table of the three digits of each number below a thousand.
use Rattle.std.proofs.Common.{◌≡◌, ℕ, zero, suc, ◌+◌, ◌*◌, ◌-◌, ◌/◌, ◌%◌, ◌<◌, ◌≤◌, inl, inr, Bool, true, ◌&&◌, ltb, List, arith, refl, ap}
use Rattle.std.proofs.Common.{◌∙◌, [], ◌∷◌, ◌++◌, take, drop, IsAscii}
use Rattle.std.proofs.Math.Seq.{drop-append-add}
use Rattle.std.proofs.lemmas.Bool.{cases_lt}
use Rattle.std.proofs.lemmas.Bool.Decides.{Decides-by_and, Decides-ltb}
use Rattle.std.proofs.lemmas.Str.Ascii.{IsAscii-from_all}
use Rattle.num_format_int.specs.Digits.{digits}
use Rattle.num_format_int.specs.Groups.{last_digits, plain}
use Rattle.num_format_int.proofs.DigitLemmas.{digits-small, digits-two, digits-three, digits-four}
use Rattle.num_format_int.specs.declared.to_formatted_str.TheConstants.{TRIPLES}

abbrev all_ascii : List ℕ → Bool
all_ascii [] = true
all_ascii (b ∷ bs) = ltb b 128 && all_ascii bs

-- so that each index is a boundary of characters
pub triples_ascii : IsAscii TRIPLES.now
triples_ascii =
    IsAscii-from_all TRIPLES.now ((Decides-by_and (λ b. ltb b 128) (λ b. b < 128) all_ascii (λ b. Decides-ltb b 128) refl
    (λ _ _. refl) TRIPLES.now).0 refl)

-- the three digits of so many numbers in turn
triples : (count first : ℕ) → List ℕ
triples zero first = []
triples (suc count) first = plain (last_digits 3 first) ++ triples count (suc first)

is_triples : TRIPLES.now ≡ triples 1000 0
unfolding triples
is_triples = refl

drop-triples : (p count first all : ℕ) → all ≡ p + suc count → drop (3 * p) (triples all first) ≡ triples (suc count) (p + first)
unfolding triples
drop-triples zero count first all e =
    let same : all ≡ suc count = omega arith in
    let own : 0 + first ≡ first = omega arith in
    rw (same, own) refl
drop-triples (suc p) count first all e =
    let three : 3 * suc p ≡ 3 + 3 * p = omega arith in
    let more : all ≡ suc (p + suc count) = omega arith in
    let next : p + suc first ≡ suc p + first = omega arith in
    ap (λ k. drop k (triples all first)) three
    ∙ ap (λ a. drop (3 + 3 * p) (triples a first)) more
    ∙ drop-append-add (plain (last_digits 3 first)) (triples (p + suc count) (suc first)) (3 * p)
    ∙ drop-triples p count (suc first) (p + suc count) refl
    ∙ ap (triples (suc count)) next

-- from its place on, the table is the three digits of a number and then those of the next ones
at_place : (p : ℕ) → p < 1000 → drop (3 * p) TRIPLES.now ≡ plain (last_digits 3 p) ++ triples (999 - p) (suc p)
unfolding triples
at_place p below =
    let same : p + 0 ≡ p = omega arith in
    ap (drop (3 * p)) is_triples ∙ drop-triples p (999 - p) 0 1000 (omega arith) ∙ ap (triples (suc (999 - p))) same

pub triple-cut : (p : ℕ) → p < 1000 → take (3 * p + 3 - 3 * p) (drop (3 * p) TRIPLES.now) ≡ plain (last_digits 3 p)
triple-cut p below =
    let three : 3 * p + 3 - 3 * p ≡ 3 = omega arith in
    rw (three, at_place p below)

-- three digits without leading zeros
pub without_zeros : (n skipped : ℕ) → n < 1000 → (n < 10 → skipped ≡ 2) → (10 ≤ n → n < 100 → skipped ≡ 1) → (100 ≤ n → skipped ≡ 0)
    → drop skipped (plain (last_digits 3 n)) ≡ plain (digits n)
without_zeros n skipped below two one none =
    elim (cases_lt n 10) [
      | inl small ↦ let own : n % 10 ≡ n = omega arith in rw (two small, digits-small n small, own)
      | inr some ↦ elim (cases_lt n 100) [
        | inl few ↦ let own : n / 10 % 10 ≡ n / 10 = omega arith in rw (one some few, digits-two n some few, own)
        | inr many ↦
            let high : n / 10 / 10 % 10 ≡ n / 100 = omega arith in
            let middle : n / 10 % 10 ≡ n % 100 / 10 = omega arith in
            let low : n % 10 ≡ n % 100 % 10 = omega arith in
            rw (none many, digits-three n many below, high, middle, low)
      ]
    ]

-- for a first group of up to four digits
pub ruleset first_groups = (digits-four, without_zeros)
