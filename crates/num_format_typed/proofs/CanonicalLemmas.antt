-- A text that strict parsing accepts is printed, and so stands for itself.
use Rattle.std.proofs.Common.{◌≡◌, ℕ, zero, suc, ◌+◌, ◌/◌, ◌%◌, ◌^◌, ◌<◌, ◌≤◌, ◌⊎◌, inl, inr, Bool, true, false, List, [], ◌∷◌, ◌++◌, ℤ}
use Rattle.std.proofs.Common.{length, refl, ap, ◌∙◌, sym, subst, arith, append_assoc, length-append, unsigned_abs, IsUtf8, lit<}
use Rattle.std.specs.Prelude.{◌==◌, Ok, pos, negsuc, if◌then◌else◌, nat_lt}
use Rattle.std.specs.Char.{is_ascii_digit}
use Rattle.std.specs.Int.{is_negative}
use Rattle.std.specs.Int.Digits.{number_from_digits_after}
use Rattle.std.specs.List.{list_all, list_any}
use Rattle.std.specs.Str.{chars}
use Rattle.std.proofs.Math.Nat.{mod-lt}
use Rattle.std.proofs.lemmas.Bool.{and_from, cases_Bool, cases_lt, eq-eqb, or_parts}
use Rattle.std.proofs.lemmas.Bool.Decides.{nat_tests}
use Rattle.std.proofs.lemmas.Int.Digits.{number_after_append}
use Rattle.std.proofs.lemmas.List.{append-nil, map-append}
use Rattle.std.proofs.lemmas.List.Elements.{All-head, All-tail}
use Rattle.std.proofs.lemmas.List.Folds.{list_all-append, list_any-append}
use Rattle.std.proofs.lemmas.Str.{IsUtf8-append, IsUtf8-from_ascii, IsUtf8-nil, chars-IsAscii, chars-append, chars-nil}
use Rattle.std.proofs.lemmas.Str.Ascii.{IsAscii-cons, IsAscii-nil}
use Rattle.num_format_text.specs.declared.grouping.Grouping.{Grouping}
use Rattle.num_format_text.specs.declared.grouping.Grouping.TheVariants.{Posix}
use Rattle.num_format_text.specs.Format.{FormatData}
use Rattle.num_format_int.specs.Digits.{digits}
use Rattle.num_format_int.specs.Grouped.{grouped, separated, stands}
use Rattle.num_format_int.specs.Groups.{last_digits, plain}
use Rattle.num_format_int.proofs.DigitLemmas.{AreDigits, digits-below_ten, digits-more, digits-small, digits_given, length-digits-le39}
use Rattle.num_format_int.proofs.GroupedLemmas.{grouped-Posix, grouped-printed, length-grouped-le183, of_either, separated-none}
use Rattle.num_format_int.proofs.TextLemmas.{body_of-ends}
use Rattle.num_format_int.specs.Kind.{IsValueOf, IsWithin, Kind}
use Rattle.num_format_parsing.specs.Strict.{IsCanonical, ParsesStrictly, ungrouped}
use Rattle.num_format_parsing.proofs.CanonicalLemmas.{is_negative-pos}
use Rattle.num_format_parsing.proofs.CauseLemmas.{past-bound}
use Rattle.num_format_parsing.proofs.CommonLemmas.{of_printed}
use Rattle.num_format_parsing.proofs.ReadingLemmas.{is_ascii_digit-digit}
use Rattle.num_format_decimal.specs.declared.buffer.TheConstants.{MAX_DECIMAL_LEN}
use Rattle.num_format_decimal.specs.FixedPoint.{FixedPoint}
use Rattle.num_format_decimal.specs.Parsing.{ParsesDecimal, with_separators, without_separators}
use Rattle.num_format_decimal.specs.Text.{decimals_of, mark_at}
use Rattle.num_format_decimal.proofs.CanonicalLemmas.{last_digits-below, number-digits, signed-canonical}
use Rattle.num_format_decimal.proofs.ParserLemmas.{amount_of}
use Rattle.num_format_decimal.proofs.ScaleLemmas.{abs_le}
use Rattle.num_format_decimal.proofs.TextLemmas.{decimal_text-fits}
use Rattle.num_format_typed.specs.Trimming.{EndsInDigit}
use Rattle.num_format_typed.specs.Typed.{HasSymbols, IsPrinted, IsTypable, is_nonzero_digit, is_own, put, separator_of, typed_text}
use Rattle.num_format_typed.proofs.DigitLemmas.{put-digit}
use Rattle.num_format_typed.proofs.PrintedLemmas.{IsPrintedBody, typed-body, typed-signed}

-- UTF-8 of which each character is put for itself
record IsOwn (separator mark t : List ℕ) : Type 0 where
  utf8 : IsUtf8 t
  own : is_own separator mark t ≡ true

module _ (separator mark : List ℕ) where
  own-nil : IsOwn separator mark []
  own-nil = record { utf8 = IsUtf8-nil; own = ap (list_all (λ c. put separator mark c == c)) chars-nil }

  own-append : (xs ys : List ℕ) → IsOwn separator mark xs → IsOwn separator mark ys → IsOwn separator mark (xs ++ ys)
  own-append xs ys p q = record {
    utf8 = IsUtf8-append xs ys p.utf8 q.utf8;
    own = ap (list_all (λ c. put separator mark c == c)) (chars-append xs ys p.utf8)
        ∙ list_all-append (λ c. put separator mark c == c) (chars xs) (chars ys) ∙ and_from _ _ p.own q.own;
  }

  own-digit : (d : ℕ) → d < 10 → IsOwn separator mark ((48 + d) ∷ [])
  own-digit d small =
      let ascii = IsAscii-cons (48 + d) [] (omega arith) IsAscii-nil in
      let same : put separator mark (48 + d) ≡ 48 + d = put-digit separator mark (48 + d) (is_ascii_digit-digit d small) in
      record {
        utf8 = IsUtf8-from_ascii ((48 + d) ∷ []) ascii;
        own = ap (list_all (λ c. put separator mark c == c)) (chars-IsAscii ((48 + d) ∷ []) ascii) ∙ and_from _ _ (eq-eqb _ _ same) refl;
      }

  own-separated : (is_due : ℕ → Bool) (s ds : List ℕ) → IsOwn separator mark s → AreDigits ds → IsOwn separator mark (separated is_due s ds)
  own-separated is_due s [] given below = own-nil
  own-separated is_due s (d ∷ ds) given below =
      own-append ((48 + d) ∷ []) ((if is_due (length ds) then s else []) ++ separated is_due s ds)
      (own-digit d (All-head (λ x. x < 10) d ds below))
      (own-append (if is_due (length ds) then s else []) (separated is_due s ds)
      (of_either (IsOwn separator mark) own-nil (is_due (length ds)) s given)
      (own-separated is_due s ds given (All-tail (λ x. x < 10) d ds below)))

-- digits of which none is 1 to 9 write zero
digit-zero : (d : ℕ) → d < 10 → is_nonzero_digit (48 + d) ≡ false → d ≡ 0
digit-zero d small none = grind (arith, nat_tests)

zeros : (is_due : ℕ → Bool) (s ds : List ℕ) → AreDigits ds → list_any is_nonzero_digit (separated is_due s ds) ≡ false
    → number_from_digits_after 10 0 ds ≡ 0
zeros is_due s [] below none = refl
zeros is_due s (d ∷ ds) below none =
    let parts = or_parts _ _ none in
    let zero : d ≡ 0 = digit-zero d (All-head (λ x. x < 10) d ds below) parts.0 in
    let rest = (or_parts _ _ (sym (list_any-append is_nonzero_digit (if is_due (length ds) then s else []) (separated is_due s ds))
    ∙ parts.1)).1 in
    rw zero (zeros is_due s ds (All-tail (λ x. x < 10) d ds below) rest)

-- a number's digits end in one
last-digit : (n : ℕ) → (others : List ℕ) × (last : ℕ) × (digits n ≡ others ++ (last ∷ [])) × (last < 10)
last-digit n =
    elim (cases_lt n 10) [
      | inl small ↦ ([], n, digits-small n small, small)
      | inr large ↦ (digits (n / 10), n % 10, digits-more n (omega arith), mod-lt n (lit< tt))
    ]

first-digit : (is_due : ℕ → Bool) (s ds : List ℕ) → 0 < length ds → AreDigits ds
    → (first : ℕ) × (rest : List ℕ) × (separated is_due s ds ≡ first ∷ rest) × (is_ascii_digit first ≡ true)
first-digit is_due s [] some below = absurd (omega arith)
first-digit is_due s (d ∷ ds) some below = (48 + d, _, refl, is_ascii_digit-digit d (All-head (λ x. x < 10) d ds below))

-- whole digits and decimals after the sign of a number, grouped or not
module _ (f : FormatData) (typable : IsTypable f) (symbols : HasSymbols f) (g : Grouping) (either : (g ≡ f.grouping) ⊎ (g ≡ Posix))
    (n k : ℕ) where
  abbrev due : ℕ → Bool
  due = stands g (length (digits (n / 10 ^ k)))

  abbrev whole : List ℕ
  whole = grouped g f.separator (digits (n / 10 ^ k))

  whole-separated : whole ≡ separated due (separator_of f) (digits (n / 10 ^ k))
  whole-separated =
      let ds = digits (n / 10 ^ k) in
      elim either [
        | inl same ↦
            ap (λ h. grouped h f.separator ds) same ∙ grouped-printed f.grouping f.separator ds
            ∙ ap (λ h. grouped h (separator_of f) ds) (sym same)
        | inr same ↦
            ap (λ h. grouped h f.separator ds) same ∙ grouped-Posix f.separator ds ∙ sym (grouped-Posix (separator_of f) ds)
            ∙ ap (λ h. grouped h (separator_of f) ds) (sym same)
      ]

  abbrev body : List ℕ
  body = whole ++ decimals_of f n k

  body-own : IsOwn (separator_of f) f.decimal body
  body-own =
      let separator : IsOwn (separator_of f) f.decimal (separator_of f) = record {
        utf8 = of_printed IsUtf8 IsUtf8-nil f.grouping f.separator symbols.separator;
        own = typable.separator;
      } in
      let mark : IsOwn (separator_of f) f.decimal f.decimal = record { utf8 = symbols.mark; own = typable.mark } in
      let own = IsOwn (separator_of f) f.decimal in
      let nil = own-nil (separator_of f) f.decimal in
      own-append (separator_of f) f.decimal whole (decimals_of f n k)
      (subst own (sym whole-separated) (own-separated (separator_of f) f.decimal due (separator_of f) (digits (n / 10 ^ k)) separator
      (digits-below_ten (n / 10 ^ k))))
      (own-append (separator_of f) f.decimal (mark_at f k) (plain (last_digits k n)) (of_either own nil (nat_lt 0 k) f.decimal mark)
      (subst own (separated-none (λ r. false) (last_digits k n)) (own-separated (separator_of f) f.decimal (λ r. false) [] (last_digits k n)
      nil (last_digits-below k n))))

  body-ends : (j : ℕ) → j ≡ k → EndsInDigit body
  body-ends zero none =
      let last = last-digit (n / 10 ^ k) in
      let ends = body_of-ends (record f { grouping = g }) (n / 10 ^ k) last.1 last.0 last.2 in
      (ends.0, 48 + last.1, ap (λ j. whole ++ decimals_of f n j) (sym none) ∙ append-nil whole ∙ ends.1, is_ascii_digit-digit last.1 last.3)
  body-ends (suc j) some =
      let d = n % 10 in
      let front = mark_at f (suc j) ++ plain (last_digits j (n / 10)) in
      let decimals : decimals_of f n (suc j) ≡ front ++ ((48 + d) ∷ []) =
      ap (λ l. mark_at f (suc j) ++ l) (map-append (λ x. 48 + x) (last_digits j (n / 10)) (d ∷ []))
      ∙ sym (append_assoc (mark_at f (suc j)) (plain (last_digits j (n / 10))) ((48 + d) ∷ [])) in (
        whole ++ front,
        48 + d,
        ap (λ i. whole ++ decimals_of f n i) (sym some) ∙ ap (λ l. whole ++ l) decimals
            ∙ sym (append_assoc whole front ((48 + d) ∷ [])),
        is_ascii_digit-digit d (mod-lt n (lit< tt)),
      )

  body-printed : IsPrintedBody f body
  body-printed =
      let ds = digits (n / 10 ^ k) in
      let first = first-digit due (separator_of f) ds (digits_given (n / 10 ^ k)) (digits-below_ten (n / 10 ^ k)) in
      record {
        utf8 = body-own.utf8;
        first = first.0;
        rest = first.1 ++ decimals_of f n k;
        begins = ap (λ l. l ++ decimals_of f n k) (whole-separated ∙ first.2);
        digit = first.3;
        ends = body-ends k refl;
        own = body-own.own;
      }

  body-nonzero : 0 < n → list_any is_nonzero_digit body ≡ true
  body-nonzero some =
      elim (cases_Bool (list_any is_nonzero_digit body)) [
        | inl found ↦ found
        | inr none ↦
            let ds = digits (n / 10 ^ k) in
            let parts = or_parts _ _ (sym (list_any-append is_nonzero_digit whole (decimals_of f n k)) ∙ none) in
            let after = or_parts _ _ (sym (list_any-append is_nonzero_digit (mark_at f k) (plain (last_digits k n))) ∙ parts.1) in
            let first = zeros due (separator_of f) ds (digits-below_ten (n / 10 ^ k))
            (ap (list_any is_nonzero_digit) (sym whole-separated) ∙ parts.0) in
            let second = zeros (λ r. false) [] (last_digits k n) (last_digits-below k n)
            (ap (list_any is_nonzero_digit) (separated-none (λ r. false) (last_digits k n)) ∙ after.1) in
            let zero : n ≡ 0 = sym (number-digits k n) ∙ number_after_append 10 0 ds (last_digits k n)
            ∙ ap (λ m. number_from_digits_after 10 m (last_digits k n)) first ∙ second in
            absurd (omega (arith, some, zero))
      ]

  -- and the sign before them
  signed-typed : (b : Bool) → (b ≡ true → 0 < n) → (t : List ℕ) → t ≡ (if b then f.minus_sign else []) ++ body
      → IsUtf8 t × (typed_text f t ≡ t)
  signed-typed false some t same = (
    subst IsUtf8 (sym same) body-own.utf8,
    ap (typed_text f) same ∙ typed-body f typable symbols.sign body
        body-printed ∙ sym same,
  )
  signed-typed true some t same = (
    subst IsUtf8 (sym same) (IsUtf8-append f.minus_sign body symbols.sign body-own.utf8),
    ap (typed_text f) same ∙ typed-signed f typable symbols.sign body body-printed (body-nonzero (some refl)) ∙ sym same,
  )

negative-some : (z : ℤ) → is_negative z ≡ true → 0 < unsigned_abs z
negative-some (pos n) negative = absurd (cc (sym (is_negative-pos n) ∙ negative))
negative-some (negsuc n) negative = omega arith

pub decimal-printed : (f : FormatData) (t : List ℕ) (d : FixedPoint) → IsTypable f → HasSymbols f → ParsesDecimal f t d → IsPrinted f t
decimal-printed f t d typable symbols parses =
    let n = unsigned_abs d.units in
    let signed = signed-canonical f t d parses.canonical in
    let amount = signed.amount in
    let sign : List ℕ = if is_negative d.units then f.minus_sign else [] in
    let text = signed.text ∙ ap (λ l. l ++ decimals_of f n d.scale) amount.text
    ∙ append_assoc sign (grouped amount.grouping f.separator (digits (n / 10 ^ d.scale))) (decimals_of f n d.scale) in
    let same =
    signed-typed f typable symbols amount.grouping amount.either n d.scale (is_negative d.units) (negative-some d.units) t text in
    let short : length sign ≤ 8 = of_either (λ l. length l ≤ 8) (omega arith) (is_negative d.units) f.minus_sign symbols.sign_len in
    let small = abs_le d.units parses.fits in
    record {
      utf8 = same.0;
      same = same.1;
      short = elim parses.canonical [
        | with_separators is ↦ subst (λ l. length l ≤ MAX_DECIMAL_LEN) (sym is)
            (decimal_text-fits f d symbols.separator_len symbols.mark_len short small parses.bound)
        | without_separators is ↦ subst (λ l. length l ≤ MAX_DECIMAL_LEN) (sym is)
            (decimal_text-fits (ungrouped f) d symbols.separator_len symbols.mark_len short small parses.bound)
      ];
    }

pub number-printed : (f : FormatData) (t : List ℕ) (z : ℤ) → IsTypable f → HasSymbols f → IsCanonical f t z → unsigned_abs z < 2 ^ 128
    → IsPrinted f t
number-printed f t z typable symbols is_canonical small =
    let n = unsigned_abs z in
    let amount = amount_of f t z is_canonical in
    let sign : List ℕ = if is_negative z then f.minus_sign else [] in
    let body = grouped amount.grouping f.separator (digits n) in
    let whole : n ≡ n / 10 ^ 0 = omega arith in
    let text : t ≡ sign ++ (grouped amount.grouping f.separator (digits (n / 10 ^ 0)) ++ []) =
    amount.text ∙ ap (λ l. sign ++ l) (ap (λ m. grouped amount.grouping f.separator (digits m)) whole ∙ sym (append-nil _)) in
    let same = signed-typed f typable symbols amount.grouping amount.either n 0 (is_negative z) (negative-some z) t text in
    let short : length sign ≤ 8 = of_either (λ l. length l ≤ 8) (omega arith) (is_negative z) f.minus_sign symbols.sign_len in
    record {
      utf8 = same.0;
      same = same.1;
      short = omega (
        arith,
        ap length amount.text,
        length-append sign body,
        short,
        length-grouped-le183 amount.grouping f.separator (digits n) symbols.separator_len (length-digits-le39 n small),
      );
    }

-- a value of a kind has an absolute value below a bound
abs-within : (bound : ℕ) (k : Kind) (z : ℤ) → IsWithin bound k → IsValueOf k z → unsigned_abs z < bound
abs-within bound k (pos n) within value =
    elim (cases_lt n bound) [
      | inl below ↦ below
      | inr past ↦ absurd (past-bound bound k false n within past value)
    ]
abs-within bound k (negsuc n) within value =
    elim (cases_lt (suc n) bound) [
      | inl below ↦ below
      | inr past ↦ absurd (past-bound bound k true (suc n) within past value)
    ]

pub strict-printed : {X : Type 0} (k : Kind) (value : X → ℤ) (f : FormatData) (t : List ℕ) (x : X) (wide : Bool)
    → IsWithin (if wide then 2 ^ 128 else 2 ^ 64) k → IsTypable f → HasSymbols f → ParsesStrictly k value f t (Ok x) → IsPrinted f t
strict-printed k value f t x wide within typable symbols parses =
    let number = (parses.accepted.0 refl).1 in
    number-printed f t number.0 typable symbols number.1 (below wide within (abs-within _ k number.0 within number.2))
  where
    below : (wide : Bool) → IsWithin (if wide then 2 ^ 128 else 2 ^ 64) k → {n : ℕ} → n < (if wide then 2 ^ 128 else 2 ^ 64) → n < 2 ^ 128
    below true within less = less
    below false within less = omega (arith, less)
