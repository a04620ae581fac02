-- Digits that are read one by one.
use Rattle.std.proofs.Common.{◌≡◌, ℕ, ◌+◌, ◌-◌, ◌*◌, ◌^◌, ◌<◌, ◌≤◌, ◌⊎◌, inl, inr, true, false, List, [], ◌∷◌, ◌++◌, length, get_or, take}
use Rattle.std.proofs.Common.{drop, take-append-drop, refl, ap, ◌∙◌, sym, arith, length-append, length-drop, length-take}
use Rattle.std.specs.Prelude.{Option, Some, None, MatchOption}
use Rattle.std.specs.Char.{is_ascii_digit}
use Rattle.std.specs.List.{list_all}
use Rattle.std.proofs.lemmas.Bool.{and_from, and_parts, both_ways, cases_eq, true_from_ne_false}
use Rattle.std.proofs.lemmas.List.{drop_more}
use Rattle.std.proofs.lemmas.List.Folds.{list_all-append, list_all_at, list_all_more}
use Rattle.std.proofs.lemmas.Nat.{pow-add}
use Rattle.num_format_int.specs.Digits.{digits}
use Rattle.num_format_int.specs.Groups.{plain}
use Rattle.num_format_int.proofs.DigitLemmas.{digits-small}
use Rattle.num_format_parsing.specs.Shapes.{byte_digits}
use Rattle.num_format_parsing.proofs.DigitLemmas.{begins-at, writes}
use Rattle.num_format_parsing.proofs.GroupsLemmas.{plain-all, digits-counted}
use Rattle.num_format_parsing.proofs.ReadingLemmas.{digits_among-append}
use Rattle.num_format_decimal.specs.Shapes.{tail_digits}
use Rattle.num_format_decimal.proofs.MarkLemmas.{tail-all, tail-skip}
use Rattle.num_format_decimal.proofs.CanonicalLemmas.{number-joined}
use Rattle.num_format_parsing.proofs.NumberLemmas.{number-digit, number-few, one-byte}
use Rattle.num_format_parsing.specs.Parts.{number_in}
use Rattle.num_format_decimal.proofs.ScaleLemmas.{grown}

-- what was read of a text of digits up to a place: the number that these write
pub record HasDigits (t : List ℕ) (i n : ℕ) : Type 0 where
  pub all : list_all is_ascii_digit (take i t) ≡ true
  pub number : n ≡ number_in (take i t)

-- and with the next digit
pub one_more_digit : (t : List ℕ) (i n : ℕ) → i < length t → is_ascii_digit (get_or t i 0) ≡ true → HasDigits t i n
    → HasDigits t (i + 1) (10 * n + (get_or t i 0 - 48))
one_more_digit t i n inside digit before = record {
  all = list_all_more is_ascii_digit t i 0 inside ∙ and_from _ _ before.all digit;
  number = omega (arith, number-digit t i inside digit, before.number);
}

-- nineteen digits fit 64 bits
pub few_fit : (t : List ℕ) (i n : ℕ) → HasDigits t i n → is_ascii_digit (get_or t i 0) ≡ true → i < length t → length t ≤ 19
    → 10 * n + (get_or t i 0 - 48) < 2 ^ 64
few_fit t i n before digit inside few =
    let next = one_more_digit t i n inside digit before in
    let count = digits-counted (take (i + 1) t) next.all in
    omega (arith, next.number, number-few (2 ^ 64) 19 (take (i + 1) t) (omega (arith, count, length-take (i + 1) t)) (omega arith))

-- digits that begin with no zero, and zero alone, are those of their number
pub plain_read : (t : List ℕ) (n : ℕ) → 0 < length t → list_all is_ascii_digit t ≡ true → (¬ (get_or t 0 0 ≡ 48)) ⊎ (length t ≤ 1)
    → n ≡ number_in t → t ≡ plain (digits n)
plain_read t n some all either number =
    elim (cases_eq (get_or t 0 0) 48) [
      | inr other ↦
          let first = true_from_ne_false (is_ascii_digit (get_or t 0 0)) (λ no. both_ways _ (list_all_at is_ascii_digit t 0 0 some no) all)
          in
          let write = writes t (begins-at t 0 some first other) in
          plain-all t all ∙ ap plain (sym write.same ∙ ap digits (sym number))
      | inl nought ↦ elim either [
        | inl other ↦ absurd (other nought)
        | inr short ↦
            let zero : t ≡ 48 ∷ [] = one-byte t (omega arith) ∙ ap (λ b. b ∷ []) nought in
            let none : n ≡ 0 = number ∙ ap number_in zero in
            rw (zero, none, digits-small 0 (omega arith)) refl
      ]
    ]

-- what reading such a text returns
pub whole_read : (t : List ℕ) (r : Option ℕ) → 0 < length t → (¬ (get_or t 0 0 ≡ 48)) ⊎ (length t ≤ 1) →
    MatchOption r (list_all is_ascii_digit t ≡ false) (λ n. (list_all is_ascii_digit t ≡ true) × (n ≡ number_in t))
    → MatchOption r (¬ (t ≡ 48 ∷ [])) (λ n. t ≡ plain (digits n))
whole_read t None some either other = λ same. both_ways _ (sym (ap (list_all is_ascii_digit) same) ∙ other) refl
whole_read t (Some n) some either read = plain_read t n some read.0 either read.1

-- a byte that is no digit before the digits at the end
pub tail_found : (t : List ℕ) (start : ℕ) → 0 < start → start ≤ length t → list_all is_ascii_digit (drop start t) ≡ true
    → is_ascii_digit (get_or t (start - 1) 0) ≡ false → length t - start ≡ tail_digits t
tail_found t start some within all other =
    let i = start - 1 in
    let next : i + 1 ≡ start = omega arith in
    let split = sym (take-append-drop i t) ∙ ap (λ xs. take i t ++ xs) (drop_more t i 0 (omega arith)) in
    let skip = tail-skip (take i t) (get_or t i 0 ∷ drop start t) (rw other refl) in
    let end : tail_digits (get_or t i 0 ∷ drop start t) ≡ length t - start = rw other (tail-all (drop start t) all ∙ length-drop start t) in
    cc

-- two texts of digits after a number, one after the other
joined_digits : (m : ℕ) (xs ys : List ℕ) → list_all is_ascii_digit ys ≡ true →
    (m * 10 ^ length xs + number_in xs) * 10 ^ length ys + number_in ys ≡ m * 10 ^ length (xs ++ ys) + number_in (xs ++ ys)
joined_digits m xs ys all =
    let number : number_in (xs ++ ys) ≡ number_in xs * 10 ^ length ys + number_in ys =
    cc (digits_among-append xs ys, number-joined (byte_digits xs) (byte_digits ys), digits-counted ys all) in
    let power : 10 ^ length (xs ++ ys) ≡ 10 ^ length xs * 10 ^ length ys = cc (length-append xs ys, pow-add 10 (length xs) (length ys)) in
    rw (number, power) (omega arith)

pub joined_at : (m n i : ℕ) (t : List ℕ) → list_all is_ascii_digit t ≡ true → n ≡ m * 10 ^ length (take i t) + number_in (take i t)
    → n * 10 ^ length (drop i t) + number_in (drop i t) ≡ m * 10 ^ length t + number_in t
joined_at m n i t all sum =
    let split = take-append-drop i t in
    let ends = (and_parts _ _ (sym (list_all-append is_ascii_digit (take i t) (drop i t)) ∙ ap (list_all is_ascii_digit) split ∙ all)).1 in
    cc (joined_digits m (take i t) (drop i t) ends)

-- they write no less together
pub joined_above : (m i : ℕ) (t : List ℕ) → list_all is_ascii_digit t ≡ true
    → m * 10 ^ length (take i t) + number_in (take i t) ≤ m * 10 ^ length t + number_in t
joined_above m i t all =
    let n = m * 10 ^ length (take i t) + number_in (take i t) in
    omega (arith, grown n (length (drop i t)) (number_in (drop i t)), joined_at m n i t all refl)

-- for the steps of reading
pub ruleset reading = (few_fit, tail_found, tail-all, whole_read, joined_at, joined_above)
