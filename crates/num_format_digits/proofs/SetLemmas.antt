-- What holds of each digit set, and of its digits.
use Rattle.std.proofs.Common.{◌≡◌, ℕ, ◌+◌, ◌-◌, ◌<◌, ◌≤◌, inl, inr, Bool, true, false, not, ◌&&◌, ◌||◌, suc, zero, List, [], ◌∷◌, ◌++◌}
use Rattle.std.proofs.Common.{◌%◌, length, length-append, take, drop, get_or, refl, ap, ◌∙◌, sym, subst, arith}
use Rattle.std.specs.Prelude.{All, Contains, None, Some, bytes_eq, ◌==◌, nat_lt, nat_le, encode_utf8, map}
use Rattle.std.specs.Char.{is_ascii_digit, IsScalar}
use Rattle.std.specs.List.{list_all, list_any}
use Rattle.std.proofs.lemmas.Bool.{agree_below, agree_below_at, and_from, and_left, and_parts, and_right, both_ways, cases_Bool, or_cases}
use Rattle.std.proofs.lemmas.Bool.Decides.{nat_tests}
use Rattle.std.proofs.lemmas.List.Elements.{All-nil, All-cons, All-contains, Contains-append_left, Contains-append_right, Contains-get_or}
use Rattle.std.proofs.lemmas.List.Elements.{Contains-push, at_from_Contains}
use Rattle.std.proofs.lemmas.Option.{slice_get-get_or, slice_get_past}
use Rattle.std.proofs.lemmas.List.{get_or-map, get_or-take, length-map, length-take-le, take_more, take-take}
use Rattle.std.proofs.lemmas.Slice.Eq.{bytes_eq-Decides}
use denote.Ref.{Bor}
use lib.Utf8.{encode}
unfoldable pub use Rattle.ucd_category.proofs.Computing.{ucd_category}
use Rattle.num_format_parsing.specs.Reading.{is_numeric, is_other_numeral}
use Rattle.num_format_digits.specs.Digits.{HasZero, is_digit_of, is_other, IsZero, plain_char, set_numbered, shown, shown_byte, zero_among, zeros}
use Rattle.num_format_digits.specs.Sets.{locales, sets}

-- all ten digits are characters, of as many bytes each, and numeric
abbrev is_low : ℕ → Bool
is_low z = nat_lt (z + 9) 0xD800

abbrev is_high : ℕ → Bool
is_high z = nat_le 0xE000 z && nat_lt (z + 9) 0x110000

abbrev has_numerals : ℕ → Bool
has_numerals z = agree_below (λ d. is_numeric (z + d)) (λ d. true) 10

-- the bytes of a digit: those of the zero, with the last one higher by the digit
abbrev pub last_raised : List ℕ → ℕ → List ℕ
last_raised bytes d = take (length bytes - 1) bytes ++ (get_or bytes (length bytes - 1) 0 + d) ∷ []

abbrev ends_alike : ℕ → Bool
ends_alike z =
    agree_below (λ d. bytes_eq (encode_utf8 (z + d)) (last_raised (encode_utf8 z) d)) (λ d. true) 10
    && nat_lt (get_or (encode_utf8 z) (length (encode_utf8 z) - 1) 0) 0xF7

abbrev is_sound : ℕ → Bool
is_sound z = (is_low z || is_high z) && (has_numerals z && ends_alike z)

-- so many zeros at a time, which the check can compute
sound-0 : list_all is_sound (take 20 (drop 0 (zeros sets))) ≡ true
unfolding sets ucd_category encode
sound-0 = refl

sound-20 : list_all is_sound (take 20 (drop 20 (zeros sets))) ≡ true
unfolding sets ucd_category encode
sound-20 = refl

sound-40 : list_all is_sound (take 20 (drop 40 (zeros sets))) ≡ true
unfolding sets ucd_category encode
sound-40 = refl

sound-60 : list_all is_sound (take 20 (drop 60 (zeros sets))) ≡ true
unfolding sets ucd_category encode
sound-60 = refl

all_from : (k : ℕ) (zs : List ℕ) → list_all is_sound (take k zs) ≡ true → list_all is_sound (drop k zs) ≡ true → list_all is_sound zs ≡ true
all_from zero zs first rest = rest
all_from (suc k) [] first rest = refl
all_from (suc k) (z ∷ zs) first rest = let both = and_parts (is_sound z) (list_all is_sound (take k zs)) first in
    and_from _ _ both.0 (all_from k zs both.1 rest)

all-sound : list_all is_sound (zeros sets) ≡ true
unfolding sets
all-sound = all_from 20 (drop 0 (zeros sets)) sound-0 (all_from 20 (drop 20 (zeros sets)) sound-20
    (all_from 20 (drop 40 (zeros sets)) sound-40 (sound-60)))

each : (zs : List ℕ) → list_all is_sound zs ≡ true → All (λ z. is_sound z ≡ true) zs
each [] all = All-nil (λ z. is_sound z ≡ true)
each (z ∷ zs) all = let both = and_parts (is_sound z) (list_all is_sound zs) all in
    All-cons (λ z. is_sound z ≡ true) z zs both.0 (each zs both.1)

sound : (z : ℕ) → IsZero z → is_sound z ≡ true
sound z is = All-contains (λ z. is_sound z ≡ true) (zeros sets) z (each (zeros sets) all-sound) is

place : (z : ℕ) → IsZero z → (is_low z || is_high z) ≡ true
place z is = (and_parts (is_low z || is_high z) (has_numerals z && ends_alike z) (sound z is)).0

others : (z : ℕ) → IsZero z → (has_numerals z ≡ true) × (ends_alike z ≡ true)
others z is = and_parts (has_numerals z) (ends_alike z) (and_parts (is_low z || is_high z) (has_numerals z && ends_alike z) (sound z is)).1

-- the digits are characters
pub digit-scalar : (z d : ℕ) → IsZero z → d < 10 → IsScalar (z + d)
digit-scalar z d is small =
    elim (or_cases (is_low z) (is_high z) (place z is)) [
      | inl low ↦ grind (arith, nat_tests, low)
      | inr high ↦ (let both = and_parts (nat_le 0xE000 z) (nat_lt (z + 9) 0x110000) high in let one = both.0 in let two = both.1 in
          grind (arith, nat_tests, one, two))
    ]

pub zero-scalar : (z : ℕ) → IsZero z → IsScalar z
zero-scalar z is = let same : z + 0 ≡ z = omega arith in subst IsScalar same (digit-scalar z 0 is (omega arith))

-- their bytes differ in the last one alone
halves : (z : ℕ) → IsZero z → (agree_below (λ d. bytes_eq (encode_utf8 (z + d)) (last_raised (encode_utf8 z) d)) (λ d. true) 10 ≡ true)
    × (nat_lt (get_or (encode_utf8 z) (length (encode_utf8 z) - 1) 0) 0xF7 ≡ true)
halves z is = and_parts _ _ (others z is).1

pub digit-bytes : (z d : ℕ) → IsZero z → d < 10 → encode_utf8 (z + d) ≡ last_raised (encode_utf8 z) d
digit-bytes z d is small =
    (bytes_eq-Decides (encode_utf8 (z + d)) (last_raised (encode_utf8 z) d)).0
    (agree_below_at (λ d. bytes_eq (encode_utf8 (z + d)) (last_raised (encode_utf8 z) d)) (λ d. true) 10 d (halves z is).0 small)

-- and that is a byte
pub last-fits : (z : ℕ) → IsZero z → get_or (encode_utf8 z) (length (encode_utf8 z) - 1) 0 < 0xF7
last-fits z is = let test = (halves z is).1 in grind (arith, nat_tests, test)

-- the same where the bytes of the zero are the first of some
width : (z w : ℕ) (bytes : List ℕ) → HasZero z w bytes → length (encode_utf8 z) ≡ w
width z w bytes has = sym (ap length has.same) ∙ length-take-le w bytes has.within

last : (z w : ℕ) (bytes : List ℕ) → HasZero z w bytes → get_or (encode_utf8 z) (length (encode_utf8 z) - 1) 0 ≡ get_or bytes (w - 1) 0
last z w bytes has =
    let some = has.some in
    ap (λ n. get_or (encode_utf8 z) (n - 1) 0) (width z w bytes has) ∙ ap (λ xs. get_or xs (w - 1) 0) (sym has.same)
    ∙ get_or-take w bytes (w - 1) 0 (omega arith)

pub zero-fits : (z w : ℕ) (bytes : List ℕ) → IsZero z → HasZero z w bytes → get_or bytes (w - 1) 0 < 0xF7
zero-fits z w bytes is has = omega (arith, last-fits z is, last z w bytes has)

pub zero-raised : (z w d : ℕ) (bytes : List ℕ) → IsZero z → d < 10 → HasZero z w bytes
    → take (w - 1) bytes ++ (get_or bytes (w - 1) 0 + d) ∷ [] ≡ encode_utf8 (z + d)
zero-raised z w d bytes is small has =
    let front : take (length (encode_utf8 z) - 1) (encode_utf8 z) ≡ take (w - 1) bytes =
    ap (λ n. take (n - 1) (encode_utf8 z)) (width z w bytes has) ∙ ap (take (w - 1)) (sym has.same)
    ∙ take-take (w - 1) w bytes (omega arith) in
    sym (digit-bytes z d is small ∙ ap (λ xs. xs ++ (get_or (encode_utf8 z) (length (encode_utf8 z) - 1) 0 + d) ∷ []) front
    ∙ ap (λ b. take (w - 1) bytes ++ (b + d) ∷ []) (last z w bytes has))

-- a digit has as many bytes as the zero
pub shown-width : (z w b : ℕ) (bytes : List ℕ) → IsZero z → HasZero z w bytes → is_ascii_digit b ≡ true → length (shown_byte z b) ≡ w
shown-width z w b bytes is has digit =
    let zero = encode_utf8 z in
    let small : b - 48 < 10 = grind (arith, nat_tests, digit) in
    let some : 1 ≤ length zero = omega (arith, width z w bytes has, has.some) in
    let raised : length (encode_utf8 (z + (b - 48))) ≡ length (last_raised zero (b - 48)) = ap length (digit-bytes z (b - 48) is small) in
    rw digit (omega (
      arith,
      raised,
      length-append (take (length zero - 1) zero) ((get_or zero (length zero - 1) 0 + (b - 48)) ∷ []),
      length-take-le (length zero - 1) zero (omega arith),
      width z w bytes has,
    ))

-- bytes that are those of the zero but for the last, which is higher by at most nine, are those of a digit
pub digit-taken : (z w : ℕ) (bytes text : List ℕ) → IsZero z → HasZero z w bytes → take (w - 1) text ≡ take (w - 1) bytes
    → w ≤ length text → get_or bytes (w - 1) 0 ≤ get_or text (w - 1) 0 → get_or text (w - 1) 0 ≤ get_or bytes (w - 1) 0 + 9
    → take w text ≡ shown_byte z (48 + (get_or text (w - 1) 0 - get_or bytes (w - 1) 0))
digit-taken z w bytes text is has front inside low high =
    let k = w - 1 in
    let some = has.some in
    let d = get_or text k 0 - get_or bytes k 0 in
    let small : d < 10 = omega arith in
    let next : w ≡ k + 1 = omega arith in
    let sum : get_or text k 0 ≡ get_or bytes k 0 + d = omega arith in
    let digit : is_ascii_digit (48 + d) ≡ true = grind (arith, nat_tests, small) in
    let back : d ≡ 48 + d - 48 = omega arith in
    ap (λ n. take n text) next ∙ take_more text k 0 (omega arith) ∙ ap (λ t. t ++ get_or text k 0 ∷ []) front
    ∙ ap (λ b. take k bytes ++ b ∷ []) sum ∙ zero-raised z w d bytes is small has
    ∙ rw digit (ap (λ n. encode_utf8 (z + n)) back)

-- a byte is higher by at most nine if their difference as a byte is at most nine
pub raised_by : (t l : ℕ) → t < 256 → l < 0xF7 → (t + (256 - l)) % 256 ≤ 9
    → (l ≤ t) × (t ≤ l + 9) × ((t + (256 - l)) % 256 ≡ t - l)
raised_by t l byte low small = (omega arith, omega arith, omega arith)

-- they are numeric
pub digit-numeric : (z c : ℕ) → IsZero z → is_digit_of z c ≡ true → is_numeric c ≡ true
digit-numeric z c is digit =
    let test = (others z is).0 in
    let both = and_parts (nat_le z c) (nat_le c (z + 9)) digit in
    let low = both.0 in
    let high = both.1 in
    let above : z ≤ c = grind (arith, nat_tests, low) in
    let below : c - z < 10 = grind (arith, nat_tests, low, high) in
    let place : z + (c - z) ≡ c = omega arith in
    ap is_numeric (sym place) ∙ agree_below_at (λ d. is_numeric (z + d)) (λ d. true) 10 (c - z) test below

ascii-agree : agree_below is_ascii_digit is_numeric 128 ≡ true
unfolding ucd_category
ascii-agree = refl

-- the numeric characters of ASCII are its digits
pub numeric-ascii : (c : ℕ) → c < 128 → is_ascii_digit c ≡ is_numeric c
numeric-ascii c ascii = agree_below_at is_ascii_digit is_numeric 128 c ascii-agree ascii

ascii-numeric : (c : ℕ) → is_ascii_digit c ≡ true → is_numeric c ≡ true
ascii-numeric c digit = let ascii : c < 128 = grind (arith, nat_tests, digit) in sym (numeric-ascii c ascii) ∙ digit

-- a numeral that is none of 0 to 9 is no digit
not_numeric : (c : ℕ) → is_other_numeral c ≡ false → is_ascii_digit c ≡ false → is_numeric c ≡ false
not_numeric c none other = elim (cases_Bool (is_numeric c)) [
  | inl numeric ↦ (let wrong = ap (λ b. b && not (is_ascii_digit c)) numeric ∙ ap not other in absurd (both_ways _ none wrong))
  | inr plain ↦ plain
]

-- a character without numerals but 0 to 9, shown and back
pub plain-shown : (z c : ℕ) → IsZero z → is_other_numeral c ≡ false → plain_char z (shown z c) ≡ c
plain-shown z c is none = elim (cases_Bool (is_ascii_digit c)) [
  | inl digit ↦
      (let is_digit : is_digit_of z (z + (c - 48)) ≡ true = grind (arith, nat_tests, digit) in
      let back : 48 + (z + (c - 48) - z) ≡ c = grind (arith, nat_tests, digit) in
      rw (digit, is_digit) back)
  | inr other ↦
      (let no_digit : is_digit_of z c ≡ false = elim (cases_Bool (is_digit_of z c)) [
        | inl wrong ↦ absurd (both_ways _ (not_numeric c none other) (digit-numeric z c is wrong))
        | inr fine ↦ fine
      ] in
      rw (other, no_digit))
]

-- such a character is no other numeral once it is shown
pub shown-own : (z c : ℕ) → IsZero z → is_other_numeral c ≡ false → is_other z (shown z c) ≡ false
shown-own z c is none = elim (cases_Bool (is_ascii_digit c)) [
  | inl digit ↦
      (let is_digit : is_digit_of z (z + (c - 48)) ≡ true = grind (arith, nat_tests, digit) in
      rw digit (and_left _ _ (ap not is_digit)))
  | inr other ↦ rw other (and_right _ _ (not_numeric c none other))
]

-- a character that is no other numeral, made plain and shown again
pub shown-plain : (z c : ℕ) → IsZero z → is_other z c ≡ false → shown z (plain_char z c) ≡ c
shown-plain z c is none = elim (cases_Bool (is_digit_of z c)) [
  | inl digit ↦
      (let ascii : is_ascii_digit (48 + (c - z)) ≡ true = grind (arith, nat_tests, digit) in
      let back : z + (48 + (c - z) - 48) ≡ c = grind (arith, nat_tests, digit) in
      rw (digit, ascii) back)
  | inr other ↦
      (let no_digit : is_ascii_digit c ≡ false = elim (cases_Bool (is_ascii_digit c)) [
        | inl wrong ↦ absurd (both_ways _ none (and_from _ _ (ap not other) (ascii-numeric c wrong)))
        | inr fine ↦ fine
      ] in
      rw (other, no_digit))
]

-- what is found among rows is the zero of one of them
pub among-contains : (rows : List (List ℕ × ℕ)) (name : List ℕ) (z : ℕ) → zero_among rows name ≡ Some z → Contains (zeros rows) z
among-contains [] name z wrong = cc
among-contains (r ∷ rows) name z is = elim (cases_Bool (bytes_eq r.0 name)) [
  | inl same ↦ (let e : Some r.1 ≡ Some z = rw same at is in let first : r.1 ≡ z = cc in
      subst (Contains (zeros (r ∷ rows))) first (Contains-append_left (r.1 ∷ []) (zeros rows) r.1 (Contains-push [] r.1)))
  | inr other ↦ (let e : zero_among rows name ≡ Some z = rw other at is in
      Contains-append_right (r.1 ∷ []) (zeros rows) z (among-contains rows name z e))
]

any-contains : (zs : List ℕ) (z : ℕ) → list_any (λ y. y == z) zs ≡ true → Contains zs z
any-contains [] z some = let wrong : false ≡ true = some in cc
any-contains (y ∷ zs) z some = elim (cases_Bool (y == z)) [
  | inl same ↦ (let e : y ≡ z = grind (arith, nat_tests, same) in
      subst (Contains (y ∷ zs)) e (Contains-append_left (y ∷ []) zs y (Contains-push [] y)))
  | inr other ↦ Contains-append_right (y ∷ []) zs z (any-contains zs z (rw other at some))
]

-- the zeros of locales are zeros of sets
locale-tests : list_all (λ z. list_any (λ y. y == z) (zeros sets)) (zeros locales) ≡ true
unfolding sets locales
locale-tests = refl

tested : (zs : List ℕ) → list_all (λ z. list_any (λ y. y == z) (zeros sets)) zs ≡ true → All IsZero zs
tested [] all = All-nil IsZero
tested (z ∷ zs) all =
    let both = and_parts (list_any (λ y. y == z) (zeros sets)) (list_all (λ x. list_any (λ y. y == x) (zeros sets)) zs) all in
    All-cons IsZero z zs (any-contains (zeros sets) z both.0) (tested zs both.1)

pub locale-zero : (z : ℕ) → Contains (zeros locales) z → IsZero z
locale-zero z is = All-contains IsZero (zeros locales) z (tested (zeros locales) locale-tests) is

pub latin : IsZero 48
unfolding sets
latin = any-contains (zeros sets) 48 refl

pub latin_first : set_numbered 0 ≡ Some 48
unfolding sets
latin_first = refl

-- the zero at a place, of rows that are the sets
pub zero-at : (rows : List (Bor (List ℕ) × ℕ)) (i : ℕ) (d : Bor (List ℕ) × ℕ) → map (λ s. (s.0.now, s.1)) rows ≡ sets → i < length rows
    → (get_or rows i d).1 ≡ get_or (zeros sets) i 0
zero-at rows i d same inside =
    let full : i < length (map (λ s. (s.0.now, s.1)) rows) = omega (arith, length-map {B = List ℕ × ℕ} rows (λ s. (s.0.now, s.1))) in
    sym (ap (λ rs. get_or (zeros rs) i 0) (sym same) ∙ get_or-map (λ r. r.1) (map (λ s. (s.0.now, s.1)) rows) i ([], 0) 0 full
    ∙ ap (λ r. r.1) (get_or-map {Y = List ℕ × ℕ} (λ s. (s.0.now, s.1)) rows i d ([], 0) inside))

pub set-count : length (zeros sets) ≡ 77
unfolding sets
set-count = refl

pub zero-there : (i : ℕ) → i < 77 → IsZero (get_or (zeros sets) i 0)
zero-there i inside = Contains-get_or (zeros sets) i 0 (omega (arith, set-count, inside))

-- the zero of the set of a number, and that of some number
pub numbered_at : (i : ℕ) → i < 77 → set_numbered i ≡ Some (get_or (zeros sets) i 0)
numbered_at i inside = slice_get-get_or (zeros sets) i 0 (omega (arith, set-count, inside))

pub numbered_past : (i : ℕ) → 77 ≤ i → set_numbered i ≡ None
numbered_past i past = slice_get_past (zeros sets) i (omega (arith, set-count, past))

pub some_number : (z : ℕ) → IsZero z → (i : ℕ) × (i < 77) × (get_or (zeros sets) i 0 ≡ z)
some_number z is =
    let at = at_from_Contains (zeros sets) z is in
    (at.0, omega (arith, set-count, at.1), at.2 0)
