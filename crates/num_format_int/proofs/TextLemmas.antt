-- What follows for the text of a number.
use Rattle.std.proofs.Common.{◌≡◌, ℕ, ◌+◌, ◌-◌, ◌*◌, ◌^◌, ◌<◌, ◌≤◌, Bool, true, false, List, [], ◌∷◌, ◌++◌, length, refl, ap, arith}
use Rattle.std.proofs.Common.{length-append, ℤ, pos, negsuc, unsigned_abs, append_assoc}
use Rattle.std.specs.Prelude.{if◌then◌else◌, ◌≤ℤ◌}
use Rattle.std.specs.Int.{is_negative}
use Rattle.std.proofs.lemmas.Int.{ints}
use Rattle.num_format_text.specs.declared.grouping.Grouping.TheVariants.{Indian}
use Rattle.num_format_text.specs.Format.{FormatData, IsWithinCapacity}
use Rattle.num_format_int.specs.declared.buffer.TheConstants.{MAX_BUF_LEN}
use Rattle.num_format_int.specs.Digits.{digits}
use Rattle.num_format_int.specs.Grouped.{grouped, separated, separators, stands}
use Rattle.num_format_int.specs.Laws.{BoundLaw, DigitsLaw, EndsLaw}
use Rattle.num_format_int.specs.Text.{body_of, text_of}
use Rattle.num_format_int.proofs.DigitLemmas.{digits-small, digits-more, digits_given, length-digits-le39, number_from_digits-digits}
use Rattle.num_format_int.proofs.GroupedLemmas.{length-grouped, length-grouped-le183, stands-last}

-- the length of a text: the minus sign, the digits, and the separators times their length
pub length-text_of : (f : FormatData) (z : ℤ) →
    length (text_of f z) ≡ length (if is_negative z then f.minus_sign else []) + length (digits (unsigned_abs z))
    + separators f.grouping (length (digits (unsigned_abs z))) * length f.separator
length-text_of f z = simp (length-append, length-grouped f.grouping f.separator (digits (unsigned_abs z))) (omega arith)

-- a text is not empty
pub text_of-nonempty : (f : FormatData) (z : ℤ) → 0 < length (text_of f z)
text_of-nonempty f z = omega (arith, length-text_of f z, digits_given (unsigned_abs z))

-- a minus sign that is within its capacity is so too where it is left out
length-sign : (b : Bool) (sign : List ℕ) → length sign ≤ 8 → length (if b then sign else []) ≤ 8
length-sign true sign short = short
length-sign false sign short = omega arith

-- numbers from `i128::MIN` to `u128::MAX` have absolute values of 128 bits
unsigned_abs-lt : (z : ℤ) → negsuc (2 ^ 127 - 1) ≤ℤ z → z ≤ℤ pos (2 ^ 128 - 1) → unsigned_abs z < 2 ^ 128
unsigned_abs-lt (pos n) low high = omega (arith, ints)
unsigned_abs-lt (negsuc n) low high = omega (arith, ints)

-- no text is longer than a buffer
pub length-text_of-le_max : (f : FormatData) (z : ℤ) → IsWithinCapacity f → negsuc (2 ^ 127 - 1) ≤ℤ z → z ≤ℤ pos (2 ^ 128 - 1)
    → length (text_of f z) ≤ MAX_BUF_LEN
length-text_of-le_max f z fits low high =
    let few = length-digits-le39 (unsigned_abs z) (unsigned_abs-lt z low high) in
    let short = length-sign (is_negative z) f.minus_sign fits.minus_sign in
    simp length-append (omega (arith, short, length-grouped-le183 f.grouping f.separator (digits (unsigned_abs z)) fits.separator few))

-- `i128::MIN` has 39 digits
pub length-digits-i128-MIN : length (digits (2 ^ 127)) ≡ 39
unfolding digits
length-digits-i128-MIN = refl

-- the longest text
pub length-text_of-i128-MIN : (f : FormatData) → f.grouping ≡ Indian → length f.separator ≡ 8 → length f.minus_sign ≡ 8
    → length (text_of f (negsuc (2 ^ 127 - 1))) ≡ MAX_BUF_LEN
length-text_of-i128-MIN f indian separator minus_sign =
    rw (length-text_of f (negsuc (2 ^ 127 - 1)), length-digits-i128-MIN, indian, separator, minus_sign)

-- digits and separators begin with the first digit
pub body_of-begins : (f : FormatData) (n first : ℕ) (others : List ℕ) → digits n ≡ first ∷ others
    → (rest : List ℕ) × (body_of f n ≡ (48 + first) ∷ rest)
body_of-begins f n first others e = (_, ap (grouped f.grouping f.separator) e)

-- separated digits end with the last digit
separated-ends : (is_due : ℕ → Bool) → is_due 0 ≡ false → (s others : List ℕ) (last : ℕ)
    → (before : List ℕ) × (separated is_due s (others ++ (last ∷ [])) ≡ before ++ ((48 + last) ∷ []))
separated-ends is_due none s [] last = ([], rw none)
separated-ends is_due none s (d ∷ others) last =
    let rest = separated-ends is_due none s others last in
    ((48 + d) ∷ ((if is_due (length (others ++ (last ∷ []))) then s else []) ++ rest.0), rw (rest.1, append_assoc))

-- digits and separators end with the last digit
pub body_of-ends : (f : FormatData) (n last : ℕ) (others : List ℕ) → digits n ≡ others ++ (last ∷ [])
    → (before : List ℕ) × (body_of f n ≡ before ++ ((48 + last) ∷ []))
body_of-ends f n last others e =
    let d = length (others ++ (last ∷ [])) in
    let some : 0 < d = omega (arith, length-append others (last ∷ [])) in
    let rest = separated-ends (stands f.grouping d) (stands-last f.grouping d some) f.separator others last in
    (rest.0, rw e (rest.1))

-- what is promised of each number and its text
pub digits_law : DigitsLaw
digits_law = record { one = digits-small; more = digits-more; written = number_from_digits-digits; leading_zero = λ ds. refl }

pub ends_law : EndsLaw
ends_law = record { begins = body_of-begins; ends = body_of-ends }

pub bound_law : BoundLaw
bound_law = record { bound = length-text_of-le_max; reached = length-text_of-i128-MIN }

pub ruleset text_lengths = (length-text_of)
