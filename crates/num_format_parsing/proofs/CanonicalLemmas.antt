-- The texts that are canonical for a number.
use Rattle.std.proofs.Common.{◌≡◌, ℕ, zero, suc, ◌+◌, ◌-◌, ◌%◌, ◌<◌, ◌⊎◌, inl, inr, Bool, true, false, List, [], ◌∷◌, ◌++◌, length, refl}
use Rattle.std.proofs.Common.{ap, ◌∙◌, sym, arith, take, drop, length-append, lit<, subst, ℤ, pos, negsuc, unsigned_abs, IsUtf8}
use Rattle.std.specs.Prelude.{if◌then◌else◌, nat_eq}
use Rattle.std.specs.Int.{is_negative}
use Rattle.std.specs.Int.Digits.{number_from_digits}
use Rattle.std.specs.Char.{is_ascii_digit}
use Rattle.std.specs.List.{list_all, list_any, starts_with}
use Rattle.std.specs.Str.{chars}
use Rattle.std.proofs.lemmas.Bool.{cases_Bool}
use Rattle.std.proofs.lemmas.Bool.Decides.{nat_tests, Decides-eqb}
use Rattle.std.proofs.lemmas.List.{append_cancel_left, take_rest}
use Rattle.std.proofs.lemmas.List.Elements.{All-head, All-tail}
use Rattle.std.proofs.lemmas.Slice.Eq.{starts_is}
use Rattle.std.proofs.lemmas.List.Folds.{list_any-append}
use Rattle.std.proofs.lemmas.Str.{chars-append, chars-nil, IsUtf8-nil, IsUtf8-append, IsUtf8-from_ascii}
use Rattle.std.proofs.lemmas.Str.Ascii.{IsAscii-nil, IsAscii-cons}
use Rattle.num_format_text.specs.declared.grouping.Grouping.{Grouping}
use Rattle.num_format_text.specs.declared.grouping.Grouping.TheVariants.{Posix}
use Rattle.num_format_text.specs.Format.{FormatData}
use Rattle.num_format_int.specs.Digits.{digits}
use Rattle.num_format_int.specs.Grouped.{separated, grouped, stands, printed_separator}
use Rattle.num_format_int.specs.Groups.{plain}
use Rattle.num_format_int.specs.Kind.{Kind, IsValueOf}
use Rattle.num_format_int.specs.Text.{text_of, body_of}
use Rattle.num_format_int.proofs.DigitLemmas.{AreDigits, by_digits, digits-below_ten, digits-more, digits-small, digits_given}
use Rattle.num_format_int.proofs.DigitLemmas.{number_from_digits-digits}
use Rattle.num_format_int.proofs.GroupedLemmas.{grouped-Posix, grouped-printed, grouped-short, of_either}
use Rattle.num_format_parsing.specs.Parts.{number_in, IsBody, HasBody, HasReading}
use Rattle.num_format_parsing.specs.Reading.{text_digits, is_negative_text, is_other_numeral, signed_number}
use Rattle.num_format_parsing.specs.Strict.{IsCanonical, with_separators, without_separators, ungrouped, sign_len, unexpected, unread}
use Rattle.num_format_parsing.specs.Shapes.{byte_digits, BeginsWithDigit, HasPlainSymbols, HasSign}
use Rattle.num_format_parsing.specs.declared.reading.Reading.{Reading}
use Rattle.num_format_parsing.specs.declared.reading.Reading.TheVariants.{Number, TooLarge, NotCanonical}
use Rattle.num_format_parsing.proofs.DigitLemmas.{text_digits-bytes, writes}
use Rattle.num_format_parsing.proofs.GroupsLemmas.{plain-all}
use Rattle.num_format_parsing.proofs.NumberLemmas.{no_other-bytes}
use Rattle.num_format_parsing.proofs.ReadingLemmas.{digits_among-append, digits_among-separated, is_ascii_digit-digit}
use Rattle.num_format_parsing.proofs.UnreadLemmas.{begins-given, begins-at_digit, unread-separated}

-- a text is its minus sign and what follows it
pub sign-behind : (f : FormatData) (t : List ℕ) (negative : Bool) (start : ℕ) → HasSign f t negative start
    → t ≡ (if negative then f.minus_sign else []) ++ drop start t
sign-behind f t negative start sign =
    rw (sign.tested, sign.long) (elim (cases_Bool (is_negative_text f t)) [
      | inl negative ↦ rw (negative) ((starts_is Decides-eqb t f.minus_sign (is_negative_text f t) refl).0 negative)
      | inr positive ↦ rw (positive) refl
    ])

-- the sign and the absolute value of a number that is made of them
pub signed-sign : (b : Bool) (n : ℕ) → (b ≡ true → 0 < n) → is_negative (signed_number b n) ≡ b
signed-sign true (suc n) some = refl
signed-sign true zero some = absurd (omega (arith, some refl))
signed-sign false n some = grind (arith, nat_tests)

pub signed-abs : (b : Bool) (n : ℕ) → unsigned_abs (signed_number b n) ≡ n
signed-abs true zero = refl
signed-abs true (suc n) = refl
signed-abs false n = refl

-- the text of a number by its sign and its digits
pub text-signed : (f : FormatData) (negative : Bool) (n : ℕ) (ds : List ℕ) → 0 < n → digits n ≡ ds →
    text_of f (signed_number negative n) ≡ (if negative then f.minus_sign else []) ++ grouped f.grouping f.separator ds
text-signed f negative n ds some same =
    ap (λ (b : Bool). (if b then f.minus_sign else []) ++ body_of f (unsigned_abs (signed_number negative n)))
    (signed-sign negative n (λ _. some))
    ∙ ap (λ ds. (if negative then f.minus_sign else []) ++ grouped f.grouping f.separator ds) (ap digits (signed-abs negative n) ∙ same)

-- one zero is canonical for zero
pub text-zero : (g : FormatData) → text_of g (pos 0) ≡ 48 ∷ []
text-zero g = ap (grouped g.grouping g.separator) (digits-small 0 (lit< tt)) ∙ grouped-short g.grouping g.separator (0 ∷ []) (omega arith)

pub canonical-zero : (f : FormatData) (t : List ℕ) (negative : Bool) → t ≡ 48 ∷ [] → IsCanonical f t (signed_number negative 0)
canonical-zero f t true same = with_separators (same ∙ sym (text-zero f))
canonical-zero f t false same = with_separators (same ∙ sym (text-zero f))

-- the digits of z, in the groups of the format or in none, are digits with a separator that has none
pub record HasDigitsOf (f : FormatData) (z : ℤ) : Type 0 where
  pub body : List ℕ
  pub either : (body ≡ grouped f.grouping f.separator (digits (unsigned_abs z))) ⊎ (body ≡ plain (digits (unsigned_abs z)))
  pub is_due : ℕ → Bool
  pub separated_same : body ≡ separated is_due (printed_separator f.grouping f.separator) (digits (unsigned_abs z))

-- a text that is canonical for z is these after the sign of z
pub record IsTextOf (f : FormatData) (t : List ℕ) (z : ℤ) : Type 0 where
  pub of : HasDigitsOf f z
  pub text : t ≡ (if is_negative z then f.minus_sign else []) ++ of.body

pub text-canonical : (f : FormatData) (t : List ℕ) (z : ℤ) → IsCanonical f t z → IsTextOf f t z
text-canonical f t z (with_separators same) = record {
  of = record {
    body = grouped f.grouping f.separator (digits (unsigned_abs z));
    either = inl refl;
    is_due = stands f.grouping (length (digits (unsigned_abs z)));
    separated_same = grouped-printed f.grouping f.separator (digits (unsigned_abs z));
  };
  text = same;
}
text-canonical f t z (without_separators same) = record {
  of = record {
    body = grouped Posix f.separator (digits (unsigned_abs z));
    either = inr (grouped-Posix f.separator (digits (unsigned_abs z)));
    is_due = stands Posix (length (digits (unsigned_abs z)));
    separated_same = grouped-Posix f.separator (digits (unsigned_abs z))
        ∙ sym (grouped-Posix (printed_separator f.grouping f.separator) (digits (unsigned_abs z)));
  };
  text = same;
}

-- a number's digits begin with one
first-digit : (is_due : ℕ → Bool) (s ds : List ℕ) → AreDigits ds → 0 < length ds
    → (d : ℕ) × (rest : List ℕ) × (d < 10) × (separated is_due s ds ≡ (48 + d) ∷ rest)
first-digit is_due s [] below some = absurd (omega arith)
first-digit is_due s (d ∷ ds) below some = (
  d,
  (if is_due (length ds) then s else []) ++ separated is_due s ds,
  All-head (λ x. x < 10) d ds below,
  refl,
)

-- a text that is canonical for a number begins with the minus sign exactly if the number is negative
pub sign-told : (f : FormatData) (t : List ℕ) (z : ℤ) → HasPlainSymbols f → IsTextOf f t z → is_negative_text f t ≡ is_negative z
sign-told f t z symbols told =
    let ds = digits (unsigned_abs z) in
    let of = told.of in
    elim (cases_Bool (is_negative z)) [
      | inl negative ↦
          (starts_is Decides-eqb t f.minus_sign (is_negative_text f t) refl).1 of.body (told.text
          ∙ ap (λ (b : Bool). (if b then f.minus_sign else []) ++ of.body) negative) ∙ sym negative
      | inr positive ↦
          let first = first-digit of.is_due (printed_separator f.grouping f.separator) ds (digits-below_ten (unsigned_abs z))
          (digits_given (unsigned_abs z)) in
          let same : t ≡ (48 + first.0) ∷ first.1 = told.text ∙ ap (λ (b : Bool). (if b then f.minus_sign else []) ++ of.body) positive
          ∙ of.separated_same ∙ first.3 in
          ap (λ x. starts_with nat_eq x f.minus_sign) same ∙ sym (begins-given f.minus_sign ((48 + first.0) ∷ first.1) symbols.sign_some)
          ∙ begins-at_digit f.minus_sign first.1 (48 + first.0) symbols.sign (is_ascii_digit-digit first.0 first.2) ∙ sym positive
    ]

-- and after it stand the number's digits
pub record TellsBody (f : FormatData) (t : List ℕ) (negative : Bool) (start : ℕ) (z : ℤ) : Type 0 where
  pub sign : negative ≡ is_negative z
  pub of : HasDigitsOf f z
  pub body : drop start t ≡ of.body
  pub same_digits : byte_digits (drop start t) ≡ digits (unsigned_abs z)

pub body-told : (f : FormatData) (t : List ℕ) (negative : Bool) (start : ℕ) (z : ℤ) → HasSign f t negative start → IsCanonical f t z
    → TellsBody f t negative start z
body-told f t negative start z sign is_canonical =
    let told = text-canonical f t z is_canonical in
    let same : negative ≡ is_negative z = sign.tested ∙ sign-told f t z sign.symbols told in
    let text : t ≡ (if negative then f.minus_sign else []) ++ told.of.body = rw same told.text in
    let body : drop start t ≡ told.of.body = append_cancel_left (if negative then f.minus_sign else []) _ _
    (sym (sign-behind f t negative start sign) ∙ text) in
    record {
      sign = same;
      of = told.of;
      body = body;
      same_digits =
          ap byte_digits (body ∙ told.of.separated_same)
          ∙ digits_among-separated told.of.is_due (printed_separator f.grouping f.separator)
          (digits (unsigned_abs z)) sign.symbols.separator (digits-below_ten (unsigned_abs z));
    }

-- digits after a sign are canonical for a number, with the separators of the format or without any
pub canonical-body : (f : FormatData) (t s body : List ℕ) (g : Grouping) (negative : Bool) (start : ℕ) → body ≡ drop start t
    → HasSign f t negative start → s ≡ printed_separator f.grouping f.separator → g ≡ f.grouping →
    BeginsWithDigit body → IsBody g s body → IsCanonical f t (signed_number negative (number_in body))
canonical-body f t s body g negative start behind sign separator grouping begin either =
    let ds = byte_digits body in
    let front : List ℕ = if negative then f.minus_sign else [] in
    let split : t ≡ front ++ body = sign-behind f t negative start sign ∙ ap (λ b. front ++ b) (sym behind) in
    let write = writes body begin in
    elim either [
      | inl same ↦
          let here : body ≡ grouped f.grouping f.separator ds = same ∙ ap (λ k. grouped k s ds) grouping
          ∙ ap (λ x. grouped f.grouping x ds) separator ∙ sym (grouped-printed f.grouping f.separator ds) in
          with_separators (split ∙ ap (λ b. front ++ b) here ∙ sym (text-signed f negative (number_in body) ds write.some write.same))
      | inr same ↦
          without_separators (split ∙ ap (λ b. front ++ b) (same ∙ sym (grouped-Posix f.separator ds))
          ∙ sym (text-signed (ungrouped f) negative (number_in body) ds write.some write.same))
    ]

-- and so do digits alone
pub canonical-digits : (f : FormatData) (t : List ℕ) (negative : Bool) (start n : ℕ) → HasSign f t negative start
    → BeginsWithDigit (take (length t - start) (drop start t)) → list_all is_ascii_digit (take (length t - start) (drop start t)) ≡ true →
    n ≡ number_in (take (length t - start) (drop start t)) → IsCanonical f t (signed_number negative n)
canonical-digits f t negative start n sign begin digits same =
    let body = take (length t - start) (drop start t) in
    subst (λ n. IsCanonical f t (signed_number negative n)) (sym same)
    (canonical-body f t (printed_separator f.grouping f.separator) body f.grouping negative start (take_rest t start) sign refl refl begin
    (inr (plain-all body digits)))

-- and no other bytes there do
pub body-canonical : (f : FormatData) (t s : List ℕ) (g : Grouping) (negative : Bool) (start : ℕ) (z : ℤ) → HasSign f t negative start
    → s ≡ printed_separator f.grouping f.separator → g ≡ f.grouping →
    IsCanonical f t z → IsBody g s (drop start t)
body-canonical f t s g negative start z sign separator grouping is_canonical =
    let told = body-told f t negative start z sign is_canonical in
    let ds = byte_digits (drop start t) in
    elim told.of.either [
      | inl same ↦
          inl (told.body ∙ same ∙ ap (grouped f.grouping f.separator) (sym told.same_digits) ∙ grouped-printed f.grouping f.separator ds
          ∙ ap (λ x. grouped f.grouping x ds) (sym separator)
          ∙ ap (λ k. grouped k s ds) (sym grouping))
      | inr same ↦ inr (told.body ∙ same ∙ ap plain (sym told.same_digits))
    ]

-- the sign that a text has
pub sign-has : (f : FormatData) (t : List ℕ) → HasPlainSymbols f → HasSign f t (is_negative_text f t) (sign_len f t)
sign-has f t symbols = record {
  symbols = symbols;
  tested = refl;
  long = refl;
  within =
      elim (cases_Bool (is_negative_text f t)) [
        | inl negative
            ↦ rw negative (omega (
              arith,
              ap length ((starts_is Decides-eqb t f.minus_sign (is_negative_text f t) refl).0 negative),
              length-append f.minus_sign (drop (length f.minus_sign) t),
            ))
        | inr positive ↦ rw positive (omega arith)
      ];
}

pub is_negative-pos : (n : ℕ) → is_negative (pos n) ≡ false
is_negative-pos n = grind (arith, nat_tests)

pub signed_number-unsigned_abs : (z : ℤ) → signed_number (is_negative z) (unsigned_abs z) ≡ z
signed_number-unsigned_abs (pos n) = rw (is_negative-pos n)
signed_number-unsigned_abs (negsuc n) = refl

-- so a text is canonical for one number at most
pub canonical-once : (f : FormatData) (t : List ℕ) (y z : ℤ) → HasPlainSymbols f → IsCanonical f t y → IsCanonical f t z → y ≡ z
canonical-once f t y z symbols first second = sym (number y first) ∙ number z second
  where
    number : (x : ℤ) → IsCanonical f t x → signed_number (is_negative_text f t) (number_in (drop (sign_len f t) t)) ≡ x
    number x is_canonical =
        let told = body-told f t (is_negative_text f t) (sign_len f t) x (sign-has f t symbols) is_canonical in
        ap (λ b. signed_number b (number_in (drop (sign_len f t) t))) told.sign
        ∙ ap (λ n. signed_number (is_negative x) n) (ap (number_from_digits 10) told.same_digits
        ∙ number_from_digits-digits (unsigned_abs x))
        ∙ signed_number-unsigned_abs x

-- a text that does not begin with a digit other than zero is canonical for no number, unless it is one zero
pub not_canonical-zero : (f : FormatData) (t : List ℕ) (negative : Bool) (start : ℕ) (z : ℤ) → HasSign f t negative start
    → ¬ (BeginsWithDigit (drop start t)) → ¬ (t ≡ 48 ∷ []) → ¬ (IsCanonical f t z)
not_canonical-zero f t negative start z sign other more is_canonical =
    let told = body-told f t negative start z sign is_canonical in
    let either : (unsigned_abs z ≡ 0) ⊎ (0 < unsigned_abs z) = grind arith in
    elim either [
      | inl none ↦ more (zero_text z none is_canonical)
      | inr some ↦
          let ds = first-some (unsigned_abs z) some in
          other (record {
            digit = ds.0;
            rest = (if told.of.is_due (length ds.1) then printed_separator f.grouping f.separator else [])
                ++ separated told.of.is_due (printed_separator f.grouping f.separator) ds.1;
            some = ds.2;
            small = ds.3;
            same = told.body ∙ told.of.separated_same ∙ ap (separated told.of.is_due (printed_separator f.grouping f.separator)) ds.4;
          })
    ]
  where
    first-some : (n : ℕ) → 0 < n → (first : ℕ) × (rest : List ℕ) × (0 < first) × (first < 10) × (digits n ≡ first ∷ rest)
    first-some = by_digits (λ n. 0 < n → (first : ℕ) × (rest : List ℕ) × (0 < first) × (first < 10) × (digits n ≡ first ∷ rest))
        (λ n small some. (n, [], some, small, digits-small n small))
        (λ n large less some.
        let before = less (omega (arith, large)) in
        (before.0, before.1 ++ (n % 10 ∷ []), before.2, before.3, digits-more n large ∙ ap (λ ds. ds ++ (n % 10 ∷ [])) before.4))

    zero_text : (z : ℤ) → unsigned_abs z ≡ 0 → IsCanonical f t z → t ≡ 48 ∷ []
    zero_text (pos n) none (with_separators same) = same ∙ ap (λ m. text_of f (pos m)) none ∙ text-zero f
    zero_text (pos n) none (without_separators same) = same ∙ ap (λ m. text_of (ungrouped f) (pos m)) none ∙ text-zero (ungrouped f)
    zero_text (negsuc n) none is_canonical = absurd (omega (arith, none))

-- what is read of the digits after a sign is read of the text
pub reading-body : (k : Kind) (f : FormatData) (t s body : List ℕ) (g : Grouping) (negative : Bool) (start : ℕ) → body ≡ drop start t
    → HasSign f t negative start → s ≡ printed_separator f.grouping f.separator → g ≡ f.grouping →
    BeginsWithDigit body → (r : Reading) → HasBody (λ n. (b : Bool) → ¬ (IsValueOf k (signed_number b n))) g s body r
    → HasReading k f t negative r
reading-body k f t s body g negative start behind sign separator grouping begin (Number n) read =
    subst (λ m. IsCanonical f t (signed_number negative m)) (sym read.1)
    (canonical-body f t s body g negative start behind sign separator grouping begin read.0)
reading-body k f t s body g negative start behind sign separator grouping begin TooLarge read =
    (number_in body, read.1 negative, canonical-body f t s body g negative start behind sign separator grouping begin read.0)
reading-body k f t s body g negative start behind sign separator grouping begin NotCanonical other =
    λ z is_canonical. other (subst (IsBody g s) (sym behind) (body-canonical f t s g negative start z sign separator grouping is_canonical))

-- what holds of digits, of a separator, and of two texts one after the other holds of separated digits
separated-all : (P : List ℕ → Type 0) → P [] → ((d : ℕ) → d < 10 → P ((48 + d) ∷ [])) → ((xs ys : List ℕ) → P xs → P ys → P (xs ++ ys))
    → (is_due : ℕ → Bool) (s ds : List ℕ) → P s → AreDigits ds → P (separated is_due s ds)
separated-all P none digit both is_due s [] given below = none
separated-all P none digit both is_due s (d ∷ ds) given below =
    both ((48 + d) ∷ []) ((if is_due (length ds) then s else []) ++ separated is_due s ds) (digit d (All-head (λ x. x < 10) d ds below))
    (both (if is_due (length ds) then s else []) (separated is_due s ds) (of_either P none (is_due (length ds)) s given)
    (separated-all P none digit both is_due s ds given (All-tail (λ x. x < 10) d ds below)))

utf8-digit : (d : ℕ) → d < 10 → IsUtf8 ((48 + d) ∷ [])
utf8-digit d small = IsUtf8-from_ascii ((48 + d) ∷ []) (IsAscii-cons (48 + d) [] (omega arith) IsAscii-nil)

-- separated digits are UTF-8, if the separator is
pub utf8-separated : (is_due : ℕ → Bool) (s ds : List ℕ) → IsUtf8 s → AreDigits ds → IsUtf8 (separated is_due s ds)
utf8-separated = separated-all IsUtf8 IsUtf8-nil utf8-digit IsUtf8-append

-- UTF-8 without a numeral but its digits
pub record HasNoOtherNumeral (t : List ℕ) : Type 0 where
  pub utf8 : IsUtf8 t
  pub plain : list_any is_other_numeral (chars t) ≡ false

no_other-nil : HasNoOtherNumeral []
no_other-nil = record { utf8 = IsUtf8-nil; plain = ap (list_any is_other_numeral) chars-nil }

no_other-append : (xs ys : List ℕ) → HasNoOtherNumeral xs → HasNoOtherNumeral ys → HasNoOtherNumeral (xs ++ ys)
no_other-append xs ys p q = record {
  utf8 = IsUtf8-append xs ys p.utf8 q.utf8;
  plain = ap (list_any is_other_numeral) (chars-append xs ys p.utf8) ∙ list_any-append is_other_numeral (chars xs) (chars ys)
      ∙ rw (p.plain, q.plain) refl;
}

no_other-digit : (d : ℕ) → d < 10 → HasNoOtherNumeral ((48 + d) ∷ [])
no_other-digit d small = record { utf8 = utf8-digit d small; plain = no_other-bytes ((48 + d) ∷ []) (grind (arith, nat_tests)) }

-- so is a text that is canonical for a number
pub no_other-canonical : (f : FormatData) (t : List ℕ) (z : ℤ) → HasPlainSymbols f → IsCanonical f t z → HasNoOtherNumeral t
no_other-canonical f t z symbols is_canonical =
    let told = text-canonical f t z is_canonical in
    let of = told.of in
    let front : List ℕ = if is_negative z then f.minus_sign else [] in
    let separator : HasNoOtherNumeral (printed_separator f.grouping f.separator) =
    record { utf8 = symbols.separator_utf8; plain = symbols.unambiguous.separator.no_other } in
    subst HasNoOtherNumeral (sym (told.text ∙ ap (λ b. front ++ b) of.separated_same))
    (no_other-append front (separated of.is_due (printed_separator f.grouping f.separator) (digits (unsigned_abs z)))
    (of_either HasNoOtherNumeral no_other-nil (is_negative z) f.minus_sign (record {
      utf8 = symbols.sign_utf8;
      plain = symbols.unambiguous.sign.no_other;
    }))
    (separated-all HasNoOtherNumeral no_other-nil no_other-digit no_other-append of.is_due (printed_separator f.grouping f.separator)
    (digits (unsigned_abs z)) separator (digits-below_ten (unsigned_abs z))))

-- and its digits are those of the number
pub text_digits-canonical : (f : FormatData) (t : List ℕ) (z : ℤ) → HasPlainSymbols f → IsCanonical f t z
    → text_digits t ≡ digits (unsigned_abs z)
text_digits-canonical f t z symbols is_canonical =
    let sign = sign-has f t symbols in
    let told = body-told f t (is_negative_text f t) (sign_len f t) z sign is_canonical in
    let front : List ℕ = if is_negative_text f t then f.minus_sign else [] in
    text_digits-bytes t (no_other-canonical f t z symbols is_canonical).utf8
    ∙ ap byte_digits (sign-behind f t (is_negative_text f t) (sign_len f t) sign)
    ∙ digits_among-append front (drop (sign_len f t) t)
    ∙ ap (λ ds. ds ++ byte_digits (drop (sign_len f t) t)) (of_either (λ x. byte_digits x ≡ []) refl
    (is_negative_text f t) f.minus_sign symbols.sign)
    ∙ told.same_digits

-- and no unexpected byte
pub unexpected-none : (f : FormatData) (t : List ℕ) (z : ℤ) → HasPlainSymbols f → IsCanonical f t z → unexpected f t ≡ []
unexpected-none f t z symbols is_canonical =
    let told = body-told f t (is_negative_text f t) (sign_len f t) z (sign-has f t symbols) is_canonical in
    let s = printed_separator f.grouping f.separator in
    ap (unread s 0) (told.body ∙ told.of.separated_same) ∙ unread-separated told.of.is_due s (digits (unsigned_abs z)) symbols.separator
    (digits-below_ten (unsigned_abs z))
