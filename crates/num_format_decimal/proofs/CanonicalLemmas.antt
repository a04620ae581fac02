-- The parts of a text that is canonical for a decimal, and the digits in it.
use Rattle.std.proofs.Common.{◌≡◌, ℕ, zero, suc, ◌+◌, ◌*◌, ◌/◌, ◌%◌, ◌^◌, ◌<◌, ◌⊎◌, inl, inr, Bool, true, List, [], ◌∷◌, ◌++◌, length, refl}
use Rattle.std.proofs.Common.{ap, ◌∙◌, sym, arith, append_assoc, length-append, lit<, unsigned_abs}
use Rattle.std.specs.Prelude.{if◌then◌else◌}
use Rattle.std.specs.Char.{is_ascii_digit}
use Rattle.std.specs.Int.{is_negative}
use Rattle.std.specs.Int.Digits.{number_from_digits, number_from_digits_after}
use Rattle.std.specs.List.{list_all}
use Rattle.std.proofs.Math.Nat.{div-div-eq-div-mul, mod-lt, pow-succ'}
use Rattle.std.proofs.lemmas.Bool.{and_from}
use Rattle.std.proofs.lemmas.Int.Digits.{number_after_append, number_lt}
use Rattle.std.proofs.lemmas.List.{take_at}
use Rattle.std.proofs.lemmas.List.Elements.{All-append, All-cons, All-head, All-nil, All-tail, recursion_from_All}
use Rattle.std.proofs.lemmas.Nat.{div-mul-add, mod-mul-add}
use Rattle.num_format_text.specs.declared.grouping.Grouping.{Grouping}
use Rattle.num_format_text.specs.declared.grouping.Grouping.TheVariants.{Posix}
use Rattle.num_format_text.specs.Format.{FormatData}
use Rattle.num_format_int.specs.Digits.{digits}
use Rattle.num_format_int.specs.Grouped.{grouped}
use Rattle.num_format_int.specs.Groups.{last_digits, plain}
use Rattle.num_format_int.specs.Kind.{signed_number}
use Rattle.num_format_int.proofs.DigitLemmas.{AreDigits, digits-leading_one, digits-small, last_digits-mod, number_from_digits-digits}
use Rattle.num_format_parsing.specs.Shapes.{byte_digits}
use Rattle.num_format_parsing.specs.Strict.{ungrouped}
use Rattle.num_format_parsing.proofs.DigitLemmas.{digits-after, text_digits-below}
use Rattle.num_format_parsing.proofs.GroupsLemmas.{plain-all, digits-counted}
use Rattle.num_format_parsing.proofs.ReadingLemmas.{is_ascii_digit-digit}
use Rattle.num_format_parsing.proofs.CanonicalLemmas.{signed-abs, signed-sign}
use Rattle.num_format_decimal.specs.FixedPoint.{FixedPoint, fixed_point}
use Rattle.num_format_decimal.specs.Parsing.{IsCanonicalDecimal, with_separators, without_separators}
use Rattle.num_format_decimal.specs.Shapes.{IsAmount, IsSigned}
use Rattle.num_format_decimal.specs.Text.{decimal_text, decimals_of, mark_at, unsigned_text}
use Rattle.num_format_decimal.proofs.TextLemmas.{length-plain}
use Rattle.num_format_parsing.proofs.NumberLemmas.{number-after}

-- the text of a decimal is its sign and that of its absolute value
signed-text : (f : FormatData) (b : Bool) (n k : ℕ) → (b ≡ true → 0 < n)
    → decimal_text f (fixed_point (signed_number b n) k) ≡ (if b then f.minus_sign else []) ++ unsigned_text f n k
signed-text f b n k some = cc (signed-sign b n some, signed-abs b n)

signed-from : (f : FormatData) (t : List ℕ) (d : FixedPoint) (g : Grouping) → (g ≡ f.grouping) ⊎ (g ≡ Posix)
    → t ≡ (if is_negative d.units then f.minus_sign else []) ++ (grouped g f.separator (digits (unsigned_abs d.units / 10 ^ d.scale))
    ++ decimals_of f (unsigned_abs d.units) d.scale) → IsSigned f t (is_negative d.units) (unsigned_abs d.units) d.scale
signed-from f t d g either same = record {
  whole = (if is_negative d.units then f.minus_sign else []) ++ grouped g f.separator (digits (unsigned_abs d.units / 10 ^ d.scale));
  amount = record { grouping = g; either = either; text = refl };
  text = rw append_assoc same;
}

pub signed-canonical : (f : FormatData) (t : List ℕ) (d : FixedPoint) → IsCanonicalDecimal f t d
    → IsSigned f t (is_negative d.units) (unsigned_abs d.units) d.scale
signed-canonical f t d (with_separators same) = signed-from f t d f.grouping (inl refl) same
signed-canonical f t d (without_separators same) = signed-from f t d (ungrouped f).grouping (inr refl) same

pub canonical-signed : (f : FormatData) (t : List ℕ) (b : Bool) (n k : ℕ) → (b ≡ true → 0 < n) → IsSigned f t b n k
    → IsCanonicalDecimal f t (fixed_point (signed_number b n) k)
canonical-signed f t b n k some signed =
    let sign : List ℕ = if b then f.minus_sign else [] in
    let joined = append_assoc sign (grouped signed.amount.grouping f.separator (digits (n / 10 ^ k))) (decimals_of f n k) in
    elim signed.amount.either [
      | inl same ↦ with_separators (cc (signed-text f b n k some))
      | inr same ↦ without_separators (cc (signed-text (ungrouped f) b n k some))
    ]

-- what stands before the mark of such a text
pub amount-before : (f : FormatData) (whole decimals : List ℕ) (b : Bool) (n k : ℕ) → IsSigned f (whole ++ (mark_at f k ++ decimals)) b n k
    → k ≡ length decimals → IsAmount f whole b (n / 10 ^ k)
amount-before f whole decimals b n k signed long =
    let mark = mark_at f k in
    let ds = plain (last_digits k n) in
    let all = ap length signed.text in
    let front = length-append whole (mark ++ decimals) in
    let other = length-append signed.whole (mark ++ ds) in
    let same_length : length signed.whole ≡ length whole =
    omega (arith, all, front, other, length-append mark decimals, length-append mark ds, length-plain k n) in
    let same : whole ≡ signed.whole =
    cc (take_at whole (mark ++ decimals) (length whole) refl, take_at signed.whole (mark ++ ds) (length whole) same_length, signed.text) in
    rw same signed.amount

-- the last digits of a number
pub last_digits-below : (k n : ℕ) → AreDigits (last_digits k n)
last_digits-below zero n = All-nil (λ d. d < 10)
last_digits-below (suc k) n =
    All-append (λ d. d < 10) (last_digits k (n / 10)) (n % 10 ∷ []) (last_digits-below k (n / 10))
    (All-cons (λ d. d < 10) (n % 10) [] (mod-lt n (lit< tt)) (All-nil (λ d. d < 10)))

-- digits as text are digits
pub all-plain : (ds : List ℕ) → AreDigits ds → list_all is_ascii_digit (plain ds) ≡ true
all-plain [] below = refl
all-plain (d ∷ ds) below = and_from _ _ (is_ascii_digit-digit d (All-head (λ x. x < 10) d ds below))
    (all-plain ds (All-tail (λ x. x < 10) d ds below))

-- the number that digits write to the end of another's
pub number-joined : (xs ys : List ℕ) → number_from_digits 10 (xs ++ ys)
    ≡ number_from_digits 10 xs * 10 ^ length ys + number_from_digits 10 ys
number-joined xs ys = number_after_append 10 0 xs ys ∙ number-after (number_from_digits 10 xs) ys

-- a number without one more digit
pub quotient-suc : (k n : ℕ) → n / 10 ^ suc k ≡ n / 10 / 10 ^ k
quotient-suc k n = rw (pow-succ' 10 k) (sym (div-div-eq-div-mul n 10 (10 ^ k)))

-- a number's last digits after those before them write it
number-last_digits : (k n : ℕ) → number_from_digits_after 10 (n / 10 ^ k) (last_digits k n) ≡ n
number-last_digits zero n = omega arith
number-last_digits (suc k) n =
    let before = number-last_digits k (n / 10) in
    rw (quotient-suc k n, number_after_append 10 _ (last_digits k (n / 10)) (n % 10 ∷ []), before) (omega arith)

pub number-digits : (k n : ℕ) → number_from_digits 10 (digits (n / 10 ^ k) ++ last_digits k n) ≡ n
number-digits k n = rw (number_after_append 10 0 (digits (n / 10 ^ k)) (last_digits k n), number_from_digits-digits (n / 10 ^ k))
    (number-last_digits k n)

-- the last digits of the number that some digits write are these
last_digits-number : (ds : List ℕ) → AreDigits ds → last_digits (length ds) (number_from_digits 10 ds) ≡ ds
last_digits-number ds below =
    let k = length ds in
    let n = number_from_digits 10 ds in
    let one : number_from_digits_after 10 1 ds ≡ 10 ^ k + n = omega (arith, number-after 1 ds) in
    let small = number_lt 10 ds (recursion_from_All (λ d. d < 10) ds below) in
    cc (digits-leading_one k n small, digits-after 1 ds (lit< tt) below, digits-small 1 (lit< tt))

-- a text of digits after a number: they are the last digits of both together, and the number is the others
pub record EndsIn (xs : List ℕ) (m n : ℕ) : Type 0 where
  pub digits : xs ≡ plain (last_digits (length xs) n)
  pub whole : n / 10 ^ length xs ≡ m

pub ends-read : (xs : List ℕ) (m n : ℕ) → list_all is_ascii_digit xs ≡ true
    → n ≡ m * 10 ^ length xs + number_from_digits 10 (byte_digits xs) → EndsIn xs m n
ends-read xs m n all sum =
    let k = length xs in
    let ls = byte_digits xs in
    let long = digits-counted xs all in
    let below = text_digits-below xs in
    let small : number_from_digits 10 ls < 10 ^ k = rw long at (number_lt 10 ls (recursion_from_All (λ d. d < 10) ls below)) in
    let low : n % 10 ^ k ≡ number_from_digits 10 ls = rw sum (mod-mul-add m (10 ^ k) (number_from_digits 10 ls) small) in
    record {
      digits = cc (plain-all xs all, last_digits-number ls below, last_digits-mod k n);
      whole = rw sum (div-mul-add m (10 ^ k) (number_from_digits 10 ls) small);
    }
