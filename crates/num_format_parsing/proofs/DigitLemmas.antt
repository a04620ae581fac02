-- Laws of the digits among bytes.
use Rattle.std.proofs.Common.{◌≡◌, ℕ, suc, ◌+◌, ◌-◌, ◌*◌, ◌/◌, ◌%◌, ◌<◌, ◌≤◌, ◌⊎◌, inl, inr, true, false, List, [], ◌∷◌, ◌++◌, length, refl}
use Rattle.std.proofs.Common.{ap, ◌∙◌, sym, arith, drop, get_or, append_assoc, append-nil, lit<, IsUtf8}
use Rattle.std.specs.Prelude.{filter, map, All, encode_utf8}
use Rattle.std.specs.Char.{is_ascii_digit}
use Rattle.std.specs.Int.Digits.{number_from_digits, number_from_digits_after}
use Rattle.std.specs.List.{count_by, list_any}
use Rattle.std.specs.Str.{chars, encode_utf8_all}
use Rattle.std.proofs.lemmas.Bool.{cases_Bool, or_parts}
use Rattle.std.proofs.lemmas.Bool.Decides.{nat_tests}
use Rattle.std.proofs.lemmas.Int.Digits.{number_after_ge}
use Rattle.std.proofs.lemmas.List.{drop_more, length-map}
use Rattle.std.proofs.lemmas.List.Sums.{length-filter}
use Rattle.std.proofs.lemmas.List.Elements.{All-nil, All-cons, All-head, All-tail, filter-append}
use Rattle.std.proofs.lemmas.Str.{chars-encodes, encode_ascii, inside_one}
use Rattle.num_format_int.specs.Digits.{digits}
use Rattle.num_format_parsing.specs.Reading.{text_digits}
use Rattle.num_format_int.proofs.DigitLemmas.{digits-more, digits-small}
use Rattle.num_format_parsing.proofs.ReadingLemmas.{digits_among-first}
use Rattle.num_format_parsing.specs.Shapes.{byte_digits, BeginsWithDigit}

-- a digit as a character, and back
pub digit_char : (b : ℕ) → is_ascii_digit b ≡ true → 48 + (b - 48) ≡ b
digit_char b digit = grind (arith, nat_tests)

pub text_digits-digit : (b : ℕ) (t : List ℕ) → is_ascii_digit b ≡ true → byte_digits (b ∷ t) ≡ (b - 48) ∷ byte_digits t
text_digits-digit b t digit = rw digit

pub text_digits-other : (b : ℕ) (t : List ℕ) → is_ascii_digit b ≡ false → byte_digits (b ∷ t) ≡ byte_digits t
text_digits-other b t other = rw other

-- bytes of which none is a digit, and of which one is
pub text_digits-none : (t : List ℕ) → list_any is_ascii_digit t ≡ false → byte_digits t ≡ []
text_digits-none [] none = refl
text_digits-none (b ∷ t) none = let parts = or_parts _ _ none in text_digits-other b t parts.0 ∙ text_digits-none t parts.1

pub text_digits-some : (t : List ℕ) → list_any is_ascii_digit t ≡ true → ¬ (byte_digits t ≡ [])
text_digits-some [] some none = let wrong : false ≡ true = some in cc
text_digits-some (b ∷ t) some none =
    elim (cases_Bool (is_ascii_digit b)) [
      | inl digit ↦ (let wrong = sym (text_digits-digit b t digit) ∙ none in cc)
      | inr other ↦ text_digits-some t (rw other at some) (sym (text_digits-other b t other) ∙ none)
    ]

-- bytes of which none is ASCII have no digit
no_digit_above : (xs : List ℕ) → ((k : ℕ) → k < length xs → 128 ≤ get_or xs k 0) → filter is_ascii_digit xs ≡ []
no_digit_above [] high = refl
no_digit_above (x ∷ xs) high =
    let first : 128 ≤ x = high 0 (omega arith) in
    let other : is_ascii_digit x ≡ false = grind (arith, nat_tests) in
    rw other (no_digit_above xs (λ k below. high (suc k) (omega arith)))

filter-encode : (c : ℕ) → filter is_ascii_digit (encode_utf8 c) ≡ filter is_ascii_digit (c ∷ [])
filter-encode c =
    let either : (c < 128) ⊎ (128 ≤ c) = grind arith in
    elim either [
      | inl ascii ↦ ap (filter is_ascii_digit) (encode_ascii c ascii)
      | inr high ↦
          let other : is_ascii_digit c ≡ false = grind (arith, nat_tests) in
          no_digit_above (encode_utf8 c) (λ k below. wide c k high below) ∙ rw other
    ]
  where
    wide : (c k : ℕ) → 128 ≤ c → k < length (encode_utf8 c) → 128 ≤ get_or (encode_utf8 c) k 0
    wide c k high below =
        let either : (get_or (encode_utf8 c) k 0 < 128) ⊎ (128 ≤ get_or (encode_utf8 c) k 0) = grind arith in
        elim either [
          | inl low ↦ (let same = inside_one c [] (encode_utf8 c) k (sym (append-nil (encode_utf8 c))) below low in absurd (omega arith))
          | inr fine ↦ fine
        ]

filter-encodes : (cs : List ℕ) → filter is_ascii_digit (encode_utf8_all cs) ≡ filter is_ascii_digit cs
filter-encodes [] = refl
filter-encodes (c ∷ cs) =
    filter-append is_ascii_digit (encode_utf8 c) (encode_utf8_all cs)
    ∙ ap (λ ds. ds ++ filter is_ascii_digit (encode_utf8_all cs)) (filter-encode c)
    ∙ ap (λ ds. filter is_ascii_digit (c ∷ []) ++ ds) (filter-encodes cs)
    ∙ sym (filter-append is_ascii_digit (c ∷ []) cs)

-- in UTF-8 the digits among the bytes are those among the characters
pub text_digits-bytes : (t : List ℕ) → IsUtf8 t → text_digits t ≡ byte_digits t
text_digits-bytes t (cs, (scalars, same)) =
    ap (map (λ c. c - 48)) (ap (filter is_ascii_digit) (ap chars (sym same) ∙ chars-encodes cs scalars) ∙ sym (filter-encodes cs)
    ∙ ap (filter is_ascii_digit) same)

-- and they are as many
pub text_digits-counted : (t : List ℕ) → IsUtf8 t → length (text_digits t) ≡ count_by is_ascii_digit t
text_digits-counted t utf8 = ap length (text_digits-bytes t utf8) ∙ length-map (filter is_ascii_digit t) (λ b. b - 48)
    ∙ length-filter is_ascii_digit t

-- numbers below ten after a number that is not zero are its further digits
pub digits-after : (m : ℕ) (ds : List ℕ) → 0 < m → All (λ d. d < 10) ds → digits (number_from_digits_after 10 m ds) ≡ digits m ++ ds
digits-after m [] some below = sym (append-nil (digits m))
digits-after m (d ∷ ds) some below =
    let small : d < 10 = All-head (λ x. x < 10) d ds below in
    let high : (m * 10 + d) / 10 ≡ m = omega arith in
    let low : (m * 10 + d) % 10 ≡ d = omega arith in
    digits-after (m * 10 + d) ds (omega arith) (All-tail (λ x. x < 10) d ds below)
    ∙ ap (λ xs. xs ++ ds) (digits-more (m * 10 + d) (omega arith) ∙ rw (high, low))
    ∙ append_assoc (digits m) (d ∷ []) ds

-- the digits of bytes are below ten
pub text_digits-below : (t : List ℕ) → All (λ d. d < 10) (byte_digits t)
text_digits-below [] = All-nil (λ d. d < 10)
text_digits-below (b ∷ t) =
    elim (cases_Bool (is_ascii_digit b)) [
      | inl digit ↦ let small : b - 48 < 10 = grind (arith, nat_tests) in
          rw (text_digits-digit b t digit) (All-cons (λ d. d < 10) (b - 48) (byte_digits t) small (text_digits-below t))
      | inr other ↦ rw (text_digits-other b t other) (text_digits-below t)
    ]

-- bytes that begin with a digit other than zero write a number with these digits
pub record Writes (ds : List ℕ) : Type 0 where
  pub some : 0 < number_from_digits 10 ds
  pub same : digits (number_from_digits 10 ds) ≡ ds

pub writes : (t : List ℕ) → BeginsWithDigit t → Writes (byte_digits t)
writes t begin =
    let d = begin.digit in
    let rest = byte_digits begin.rest in
    let split : byte_digits t ≡ d ∷ rest = ap byte_digits begin.same ∙ digits_among-first d begin.rest begin.small in
    let first : number_from_digits 10 (d ∷ rest) ≡ number_from_digits_after 10 d rest =
    ap (λ n. number_from_digits_after 10 n rest) (let e : 0 * 10 + d ≡ d = omega arith in e) in
    rw split (record {
      some = omega (arith, first, number_after_ge 10 d rest (lit< tt), begin.some);
      same = ap digits first ∙ digits-after d rest begin.some (text_digits-below begin.rest)
          ∙ ap (λ xs. xs ++ rest) (digits-small d begin.small);
    })

-- the first digit that is not zero
pub begins-at : (t : List ℕ) (i : ℕ) → i < length t → is_ascii_digit (get_or t i 0) ≡ true → ¬ (get_or t i 0 ≡ 48)
    → BeginsWithDigit (drop i t)
begins-at t i inside digit other =
    let b = get_or t i 0 in
    let same = digit_char b digit in
    record {
      digit = b - 48;
      rest = drop (i + 1) t;
      some = grind (arith, nat_tests);
      small = grind (arith, nat_tests);
      same = drop_more t i 0 inside ∙ ap (λ c. c ∷ drop (i + 1) t) (sym same);
    }
