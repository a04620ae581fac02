-- Texts in the digits of a set, by their characters.
use Rattle.std.proofs.Common.{◌≡◌, ℕ, suc, ◌+◌, ◌-◌, ◌<◌, ◌≤◌, ◌⊎◌, inl, inr, true, false, List, [], ◌∷◌, ◌++◌, length, Some, None, refl}
use Rattle.std.proofs.Common.{ap, ◌∙◌, sym, arith, get_or, append_assoc, append-nil, IsUtf8, drop, set, subst, take, ℤ}
use Rattle.std.specs.Prelude.{map, encode_utf8}
use Rattle.std.specs.Char.{is_ascii_digit}
use Rattle.std.specs.List.{list_any}
use Rattle.std.specs.Str.{all_scalars, chars, encode_utf8_all}
use Rattle.std.proofs.lemmas.Bool.{and_from, and_parts, cases_Bool, or_parts}
use Rattle.std.proofs.lemmas.Bool.Decides.{nat_tests}
use Rattle.std.proofs.lemmas.List.{drop-drop, take-append-drop, take_more_set, take_rest}
use Rattle.std.proofs.lemmas.List.Concat.{flat_map-append}
use Rattle.std.proofs.lemmas.Str.{chars-encodes, encode_ascii, encodes-chars, inside_one, scalars-chars}
use Rattle.num_format_text.specs.Format.{FormatData}
use Rattle.num_format_parsing.specs.Reading.{is_other_numeral}
use Rattle.num_format_parsing.specs.Shapes.{HasPlainSymbols}
use Rattle.num_format_parsing.specs.Strict.{IsCanonical}
use Rattle.num_format_parsing.proofs.CanonicalLemmas.{no_other-canonical}
use Rattle.num_format_digits.specs.Digits.{HasNoOthers, HasOneSet, IsZero, ascii_of, in_digits, is_other, other_from, plain_char, shown}
use Rattle.num_format_digits.specs.Digits.{shown_byte}
use Rattle.num_format_digits.proofs.SetLemmas.{digit-scalar, plain-shown, shown-own, shown-plain}

-- bytes of which none is ASCII stay
high_bytes : (z : ℕ) (xs : List ℕ) → ((k : ℕ) → k < length xs → 128 ≤ get_or xs k 0) → in_digits z xs ≡ xs
high_bytes z [] high = refl
high_bytes z (x ∷ xs) high =
    let first : 128 ≤ x = high 0 (omega arith) in
    let other : is_ascii_digit x ≡ false = grind (arith, nat_tests) in
    rw other (ap (λ t. x ∷ t) (high_bytes z xs (λ k below. high (suc k) (omega arith))))

-- the bytes of a character, and of many
in_digits-encode : (z c : ℕ) → in_digits z (encode_utf8 c) ≡ encode_utf8 (shown z c)
in_digits-encode z c =
    let either : (c < 128) ⊎ (128 ≤ c) = grind arith in
    elim either [
      | inl ascii ↦
          ap (in_digits z) (encode_ascii c ascii) ∙ append-nil (shown_byte z c) ∙ elim (cases_Bool (is_ascii_digit c)) [
            | inl digit ↦ rw digit
            | inr other ↦ rw other (sym (encode_ascii c ascii))
          ]
      | inr high ↦
          let other : is_ascii_digit c ≡ false = grind (arith, nat_tests) in
          high_bytes z (encode_utf8 c) (λ k below. wide c k high below) ∙ rw other
    ]
  where
    wide : (c k : ℕ) → 128 ≤ c → k < length (encode_utf8 c) → 128 ≤ get_or (encode_utf8 c) k 0
    wide c k high below =
        let either : (get_or (encode_utf8 c) k 0 < 128) ⊎ (128 ≤ get_or (encode_utf8 c) k 0) = grind arith in
        elim either [
          | inl low ↦ (let same = inside_one c [] (encode_utf8 c) k (sym (append-nil (encode_utf8 c))) below low in absurd (omega arith))
          | inr fine ↦ fine
        ]

pub in_digits-encodes : (z : ℕ) (cs : List ℕ) → in_digits z (encode_utf8_all cs) ≡ encode_utf8_all (map (shown z) cs)
in_digits-encodes z [] = refl
in_digits-encodes z (c ∷ cs) =
    flat_map-append (shown_byte z) (encode_utf8 c) (encode_utf8_all cs)
    ∙ ap (λ t. t ++ in_digits z (encode_utf8_all cs)) (in_digits-encode z c)
    ∙ ap (λ t. encode_utf8 (shown z c) ++ t) (in_digits-encodes z cs)

-- so a text in digits is its characters, each shown
pub in_digits-chars : (z : ℕ) (t : List ℕ) → IsUtf8 t → encode_utf8_all (map (shown z) (chars t)) ≡ in_digits z t
in_digits-chars z t utf8 = sym (in_digits-encodes z (chars t)) ∙ ap (in_digits z) (encodes-chars t utf8)

-- characters shown, and made plain, are characters
shown-scalars : (z : ℕ) (cs : List ℕ) → IsZero z → all_scalars cs ≡ true → all_scalars (map (shown z) cs) ≡ true
shown-scalars z [] is all = refl
shown-scalars z (c ∷ cs) is all =
    let both = and_parts _ _ all in
    let rest = shown-scalars z cs is both.1 in
    elim (cases_Bool (is_ascii_digit c)) [
      | inl digit ↦ (let small : c - 48 < 10 = grind (arith, nat_tests, digit) in
          and_from _ _ (rw digit (digit-scalar z (c - 48) is small)) rest)
      | inr other ↦ and_from _ _ (rw other both.0) rest
    ]

pub shown-chars : (z : ℕ) (t : List ℕ) → IsZero z → IsUtf8 t → IsUtf8 (in_digits z t) × (chars (in_digits z t) ≡ map (shown z) (chars t))
shown-chars z t is utf8 =
    let scalars = shown-scalars z (chars t) is (scalars-chars t utf8) in
    let same = in_digits-chars z t utf8 in
    ((map (shown z) (chars t), (scalars, same)), ap chars (sym same) ∙ chars-encodes (map (shown z) (chars t)) scalars)

-- a first character that is no other numeral
pub other-own : (z at c : ℕ) (cs : List ℕ) → is_other z c ≡ false → other_from z at (c ∷ cs) ≡ other_from z (at + length (encode_utf8 c)) cs
other-own z at c cs own = rw own

other-parts : (z at c : ℕ) (cs : List ℕ) → other_from z at (c ∷ cs) ≡ None → (is_other z c ≡ false)
    × (other_from z (at + length (encode_utf8 c)) cs ≡ None)
other-parts z at c cs none = elim (cases_Bool (is_other z c)) [
  | inl other ↦ (let wrong : Some at ≡ None = rw other at none in cc)
  | inr own ↦ (own, sym (other-own z at c cs own) ∙ none)
]

-- made plain again, and none of them another numeral
plain-again : (z at : ℕ) (cs : List ℕ) → IsZero z → list_any is_other_numeral cs ≡ false →
    (other_from z at (map (shown z) cs) ≡ None) × (map (plain_char z) (map (shown z) cs) ≡ cs)
plain-again z at [] is none = (refl, refl)
plain-again z at (c ∷ cs) is none =
    let parts = or_parts _ _ none in
    let rest = plain-again z (at + length (encode_utf8 (shown z c))) cs is parts.1 in (
      other-own z at (shown z c) (map (shown z) cs) (shown-own z c is parts.0) ∙ rest.0,
      ap (λ d. d ∷ map (plain_char z) (map (shown z) cs)) (plain-shown z c is parts.0) ∙ ap (λ ds. c ∷ ds) rest.1,
    )

pub reads_back : (z : ℕ) (t : List ℕ) → IsZero z → IsUtf8 t → list_any is_other_numeral (chars t) ≡ false → HasOneSet z (in_digits z t)
    × (ascii_of z (in_digits z t) ≡ t)
reads_back z t is utf8 none =
    let cs = (shown-chars z t is utf8).1 in
    let again = plain-again z 0 (chars t) is none in (
      ap (other_from z 0) cs ∙ again.0,
      ap (λ ds. encode_utf8_all (map (plain_char z) ds)) cs ∙ ap encode_utf8_all again.1
          ∙ encodes-chars t utf8,
    )

shown-again : (z at : ℕ) (cs : List ℕ) → IsZero z → other_from z at cs ≡ None → map (shown z) (map (plain_char z) cs) ≡ cs
shown-again z at [] is none = refl
shown-again z at (c ∷ cs) is none =
    let parts = other-parts z at c cs none in
    ap (λ d. d ∷ map (shown z) (map (plain_char z) cs)) (shown-plain z c is parts.0)
    ∙ ap (λ ds. c ∷ ds) (shown-again z (at + length (encode_utf8 c)) cs is parts.1)

pub one_set : (z : ℕ) (t : List ℕ) → IsZero z → IsUtf8 t → HasOneSet z t → in_digits z (ascii_of z t) ≡ t
one_set z t is utf8 none = in_digits-encodes z (map (plain_char z) (chars t)) ∙ ap encode_utf8_all (shown-again z 0 (chars t) is none)
    ∙ encodes-chars t utf8

-- in `latn` a text is as it is
pub in_latin : (t : List ℕ) → in_digits 48 t ≡ t
in_latin [] = refl
in_latin (x ∷ xs) = elim (cases_Bool (is_ascii_digit x)) [
  | inl digit ↦
      (let ascii : x < 128 = grind (arith, nat_tests, digit) in
      let same : 48 + (x - 48) ≡ x = grind (arith, nat_tests, digit) in
      rw (digit, same, encode_ascii x ascii) (ap (λ t. x ∷ t) (in_latin xs)))
  | inr other ↦ rw other (ap (λ t. x ∷ t) (in_latin xs))
]

-- what is after a place is the same after a later one
pub drop_later : (n m : ℕ) (xs ys : List ℕ) → n ≤ m → drop n xs ≡ drop n ys → drop m xs ≡ drop m ys
drop_later n m xs ys later same =
    let there : n + (m - n) ≡ m = omega arith in
    ap (λ k. drop k xs) (sym there) ∙ sym (drop-drop (m - n) n xs) ∙ ap (drop (m - n)) same ∙ drop-drop (m - n) n ys
    ∙ ap (λ k. drop k ys) there

-- the next bytes of a text, for which one stands
pub taken_next : (z len byte : ℕ) (text left rest array : List ℕ) → text ≡ in_digits z (take len array) ++ left
    → left ≡ shown_byte z byte ++ rest → len < length array → text ≡ in_digits z (take (len + 1) (set array len byte)) ++ rest
taken_next z len byte text left rest array before next inside =
    let taken = in_digits z (take len array) in
    before ∙ ap (λ t. taken ++ t) (next ∙ ap (λ t. t ++ rest) (sym (append-nil (shown_byte z byte))))
    ∙ sym (append_assoc taken (in_digits z (byte ∷ [])) rest)
    ∙ ap (λ t. t ++ rest) (sym (flat_map-append (shown_byte z) (take len array) (byte ∷ []))
    ∙ ap (in_digits z) (sym (take_more_set array len byte inside)))

-- the same after bytes that are copied
pub copied_after : (z n k : ℕ) (text left rest a b : List ℕ) → text ≡ in_digits z (take n a) ++ left
    → take (n + k) b ≡ take n a ++ take k left → in_digits z (take k left) ≡ take k left → rest ≡ take (length left - k) (drop k left)
    → text ≡ in_digits z (take (n + k) b) ++ rest
copied_after z n k text left rest a b before copied same is =
    let taken = in_digits z (take n a) in
    before ∙ ap (λ t. taken ++ t) (sym (take-append-drop k left)) ∙ sym (append_assoc taken (take k left) (drop k left))
    ∙ ap (λ t. taken ++ t ++ drop k left) (sym same)
    ∙ ap (λ t. t ++ drop k left) (sym (flat_map-append (shown_byte z) (take n a) (take k left)) ∙ ap (in_digits z) (sym copied))
    ∙ ap (λ t. in_digits z (take (n + k) b) ++ t) (sym (take_rest left k) ∙ sym is)

-- a text that is shown, of which what was shown has no other numeral, or is canonical for a number
pub shown_back : (z : ℕ) (t a : List ℕ) → IsZero z → HasNoOthers a → t ≡ in_digits z a → IsUtf8 t × HasOneSet z t × (ascii_of z t ≡ a)
shown_back z t a is none same =
    let back = reads_back z a is none.0 none.1 in (
      subst IsUtf8 (sym same) (shown-chars z a is none.0).0,
      subst (HasOneSet z) (sym same) back.0,
      ap (ascii_of z) same ∙ back.1,
    )

pub canonical_back : (z : ℕ) (f : FormatData) (t a : List ℕ) (n : ℤ) → IsZero z → HasPlainSymbols f → IsCanonical f a n → t ≡ in_digits z a
    → IsUtf8 t × HasOneSet z t × (ascii_of z t ≡ a)
canonical_back z f t a n is symbols is_canonical same =
    let other = no_other-canonical f a n symbols is_canonical in shown_back z t a is (other.utf8, other.plain) same
