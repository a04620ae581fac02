-- What a text tells of a decimal, under a format that marks decimals.
use Rattle.std.proofs.Common.{◌≡◌, ℕ, zero, suc, ◌+◌, ◌/◌, ◌^◌, ◌<◌, ◌⊎◌, inl, inr, Bool, true, false, List, [], ◌∷◌, ◌++◌, length, refl}
use Rattle.std.proofs.Common.{ap, ◌∙◌, sym, subst, arith, append_assoc, append-nil, ℤ, unsigned_abs, IsUtf8}
use Rattle.std.specs.Prelude.{if◌then◌else◌, nat_lt}
use Rattle.std.specs.Char.{is_ascii_digit}
use Rattle.std.specs.Int.{is_negative}
use Rattle.std.specs.Int.Digits.{number_from_digits}
use Rattle.std.specs.List.{AllByRecursion, list_all, All, slice_split}
use Rattle.std.proofs.lemmas.Bool.{and_right}
use Rattle.std.proofs.lemmas.Bool.Decides.{Decides-eqb}
use Rattle.std.proofs.lemmas.List.{append_cancel_left}
use Rattle.std.proofs.lemmas.List.Elements.{All-head, All-tail, All-cons, All-nil}
use Rattle.std.proofs.lemmas.List.Folds.{list_all-append}
use Rattle.std.proofs.lemmas.Slice.Eq.{starts_is}
use Rattle.std.proofs.lemmas.Str.{IsUtf8-append, IsUtf8-nil}
use Rattle.num_format_text.specs.declared.grouping.Grouping.{Grouping}
use Rattle.num_format_text.specs.declared.grouping.Grouping.TheVariants.{Posix}
use Rattle.num_format_text.specs.Format.{FormatData}
use Rattle.num_format_int.specs.Digits.{digits}
use Rattle.num_format_int.specs.Grouped.{grouped, printed_separator, separated, stands}
use Rattle.num_format_int.specs.Groups.{last_digits, plain}
use Rattle.num_format_int.proofs.DigitLemmas.{AreDigits, digits-below_ten, digits_given}
use Rattle.num_format_int.proofs.GroupedLemmas.{grouped-Posix, grouped-printed, of_either, stands-last}
use Rattle.num_format_parsing.specs.Reading.{denoted, is_negative_text, magnitude_of}
use Rattle.num_format_parsing.specs.Shapes.{byte_digits}
use Rattle.num_format_parsing.specs.Strict.{HasNoNumeral}
use Rattle.num_format_parsing.proofs.DigitLemmas.{text_digits-bytes, text_digits-other}
use Rattle.num_format_parsing.proofs.CommonLemmas.{of_printed}
use Rattle.num_format_parsing.proofs.SymbolLemmas.{some_first}
use Rattle.num_format_parsing.proofs.UnreadLemmas.{begins-at_digit, begins-given, plain-first}
use Rattle.num_format_parsing.proofs.ReadingLemmas.{digits_among-append, digits_among-separated, is_ascii_digit-digit}
use Rattle.num_format_parsing.proofs.CanonicalLemmas.{signed_number-unsigned_abs, utf8-separated}
use Rattle.num_format_decimal.specs.FixedPoint.{FixedPoint, fixed_point}
use Rattle.num_format_decimal.specs.Marks.{IsPlainFormat, MarksDecimals}
use Rattle.num_format_decimal.specs.Parsing.{IsCanonicalDecimal}
use Rattle.num_format_decimal.specs.Shapes.{IsSigned, tail_digits}
use Rattle.num_format_decimal.specs.Text.{decimals_of, mark_at}
use Rattle.num_format_decimal.proofs.CanonicalLemmas.{all-plain, last_digits-below, number-digits, signed-canonical}
use Rattle.num_format_decimal.proofs.TextLemmas.{length-plain, mark-some}
use Rattle.std.proofs.lemmas.List.Splits.{slice_split_at, slice_split_none}

pub plain-from_marks : (f : FormatData) → IsUtf8 f.minus_sign → IsUtf8 f.separator → IsUtf8 f.decimal → MarksDecimals f → IsPlainFormat f
plain-from_marks f sign separator mark marks = record {
  sign_utf8 = sign;
  separator_utf8 = separator;
  mark_utf8 = mark;
  marks = marks;
}

-- a text in UTF-8 whose digits are these
pub record IsPlainText (t ds : List ℕ) : Type 0 where
  pub utf8 : IsUtf8 t
  pub digits : byte_digits t ≡ ds

plain-append : (s t ds es : List ℕ) → IsPlainText s ds → IsPlainText t es → IsPlainText (s ++ t) (ds ++ es)
plain-append s t ds es first second = record {
  utf8 = IsUtf8-append s t first.utf8 second.utf8;
  digits = cc (digits_among-append s t, first.digits, second.digits);
}

plain-nil : IsPlainText [] []
plain-nil = record { utf8 = IsUtf8-nil; digits = refl }

plain-symbol : (s : List ℕ) → IsUtf8 s → HasNoNumeral s → IsPlainText s []
plain-symbol s utf8 none = record { utf8 = utf8; digits = sym (text_digits-bytes s utf8) ∙ none.no_digit }

plain-separated : (is_due : ℕ → Bool) (s ds : List ℕ) → IsPlainText s [] → AreDigits ds → IsPlainText (separated is_due s ds) ds
plain-separated is_due s ds separator below = record {
  utf8 = utf8-separated is_due s ds separator.utf8 below;
  digits = digits_among-separated is_due s ds separator.digits below;
}

plain-digits : (ds : List ℕ) → AreDigits ds → IsPlainText (plain ds) ds
plain-digits ds below = subst (λ t. IsPlainText t ds) (grouped-Posix [] ds)
    (plain-separated (stands Posix (length ds)) [] ds plain-nil below)

-- the digits of an amount, grouped or not, are separated, and not after the last
record IsSeparated (f : FormatData) (t ds : List ℕ) : Type 0 where
  is_due : ℕ → Bool
  last : is_due 0 ≡ false
  same : t ≡ separated is_due (printed_separator f.grouping f.separator) ds

is-separated : (f : FormatData) (g : Grouping) (ds : List ℕ) → 0 < length ds → (g ≡ f.grouping) ⊎ (g ≡ Posix)
    → IsSeparated f (grouped g f.separator ds) ds
is-separated f g ds some either = record {
  is_due = stands g (length ds);
  last = stands-last g (length ds) some;
  same = elim either [
    | inl same ↦ rw same (grouped-printed f.grouping f.separator ds)
    | inr same ↦ rw same (grouped-Posix f.separator ds ∙ sym (grouped-Posix (printed_separator f.grouping f.separator) ds))
  ];
}

-- separated digits begin with a digit
separated-begins : (is_due : ℕ → Bool) (s ds : List ℕ) → 0 < length ds → AreDigits ds →
    (d : ℕ) × (d < 10) × (rest : List ℕ) × (separated is_due s ds ≡ (48 + d) ∷ rest)
separated-begins is_due s [] given below = absurd (omega arith)
separated-begins is_due s (d ∷ ds) given below = (d, All-head (λ x. x < 10) d ds below, _, refl)

-- what a text tells: its sign, and the number that its digits write
pub record Tells (f : FormatData) (t : List ℕ) (negative : Bool) (n : ℕ) : Type 0 where
  pub utf8 : IsUtf8 t
  pub sign : is_negative_text f t ≡ negative
  pub magnitude : magnitude_of t ≡ n

-- a format's symbols, as bytes
module _ (f : FormatData) (p : IsPlainFormat f) where
  abbrev printed : List ℕ
  printed = printed_separator f.grouping f.separator

  plain-printed : IsPlainText printed []
  plain-printed = plain-symbol printed (of_printed IsUtf8 IsUtf8-nil f.grouping f.separator p.separator_utf8)
      p.marks.unambiguous.separator

  plain-sign : IsPlainText f.minus_sign []
  plain-sign = plain-symbol f.minus_sign p.sign_utf8 p.marks.unambiguous.sign

  pub plain-mark : IsPlainText f.decimal []
  plain-mark = plain-symbol f.decimal p.mark_utf8 p.marks.mark.plain

  -- such a text begins with the minus sign exactly if it is negative
  sign-told : (t : List ℕ) (b : Bool) (n k : ℕ) → IsSigned f t b n k → is_negative_text f t ≡ b
  sign-told t true n k signed =
      let body = grouped signed.amount.grouping f.separator (digits (n / 10 ^ k)) in
      (starts_is Decides-eqb t f.minus_sign (is_negative_text f t) refl).1 (body ++ decimals_of f n k)
      (cc (signed.text, signed.amount.text, append_assoc f.minus_sign body (decimals_of f n k)))
  sign-told t false n k signed =
      let ds = digits (n / 10 ^ k) in
      let rest = decimals_of f n k in
      let body = is-separated f signed.amount.grouping ds (digits_given (n / 10 ^ k)) signed.amount.either in
      let begins = separated-begins body.is_due printed ds (digits_given (n / 10 ^ k)) (digits-below_ten (n / 10 ^ k)) in
      let first : t ≡ (48 + begins.0) ∷ (begins.2 ++ rest) = cc (signed.text, signed.amount.text, body.same, begins.3) in
      ap (is_negative_text f) first
      ∙ sym (begins-given f.minus_sign ((48 + begins.0) ∷ (begins.2 ++ rest)) (some_first f.minus_sign p.marks.unambiguous.sign_given))
      ∙ begins-at_digit f.minus_sign (begins.2 ++ rest) (48 + begins.0) plain-sign.digits (is_ascii_digit-digit begins.0 begins.1)

  pub tells-signed : (t : List ℕ) (b : Bool) (n k : ℕ) → IsSigned f t b n k → Tells f t b n
  tells-signed t b n k signed =
      let ds = digits (n / 10 ^ k) in
      let es = last_digits k n in
      let body = is-separated f signed.amount.grouping ds (digits_given (n / 10 ^ k)) signed.amount.either in
      let front = of_either (λ s. IsPlainText s []) plain-nil b f.minus_sign plain-sign in
      let mark = of_either (λ s. IsPlainText s []) plain-nil (nat_lt 0 k) f.decimal plain-mark in
      let whole = plain-append _ _ [] ds front (plain-separated body.is_due printed ds plain-printed (digits-below_ten (n / 10 ^ k))) in
      let rest = plain-append (mark_at f k) (plain es) [] es mark (plain-digits es (last_digits-below k n)) in
      let all : IsPlainText t (ds ++ es) = rw (signed.text, signed.amount.text, body.same) (plain-append _ _ ds es whole rest) in
      record {
        utf8 = all.utf8;
        sign = sign-told t b n k signed;
        magnitude = ap (number_from_digits 10) (text_digits-bytes t all.utf8 ∙ all.digits) ∙ number-digits k n;
      }

pub tells-canonical_decimal : (f : FormatData) (t : List ℕ) (z : ℤ) (k : ℕ) → IsPlainFormat f → IsCanonicalDecimal f t (fixed_point z k)
    → Tells f t (is_negative z) (unsigned_abs z)
tells-canonical_decimal f t z k p is_canonical =
    tells-signed f p t (is_negative z) (unsigned_abs z) k (signed-canonical f t (fixed_point z k) is_canonical)

-- it denotes the units
pub denoted-decimal : (f : FormatData) (t : List ℕ) (z : ℤ) (k : ℕ) → Tells f t (is_negative z) (unsigned_abs z) → denoted f t ≡ z
denoted-decimal f t z k tells = cc (tells.sign, tells.magnitude, signed_number-unsigned_abs z)

-- the first of bytes without digits, and the others
first_other : (b : ℕ) (t : List ℕ) → byte_digits (b ∷ t) ≡ [] → (is_ascii_digit b ≡ false) × (byte_digits t ≡ [])
first_other b t none = let other = plain-first b t none in (other, sym (text_digits-other b t other) ∙ none)

-- how many digits stand at the end of digits, and of a text that ends in others
pub tail-all : (ds : List ℕ) → list_all is_ascii_digit ds ≡ true → tail_digits ds ≡ length ds
tail-all [] all = refl
tail-all (d ∷ ds) all = rw all refl

pub tail-skip : (xs rest : List ℕ) → list_all is_ascii_digit rest ≡ false → tail_digits (xs ++ rest) ≡ tail_digits rest
tail-skip [] rest other = refl
tail-skip (b ∷ xs) rest other = rw (list_all-append is_ascii_digit (b ∷ xs) rest ∙ and_right (list_all is_ascii_digit (b ∷ xs)) _ other)
    (tail-skip xs rest other)

-- after a mark, these are the digits that follow it
tail-marked : (mark ds : List ℕ) → byte_digits mark ≡ [] → list_all is_ascii_digit ds ≡ true → tail_digits (mark ++ ds) ≡ length ds
tail-marked [] ds none all = tail-all ds all
tail-marked (c ∷ mark) ds none all =
    let first = first_other c mark none in
    let other = first.0 in
    rw other (tail-marked mark ds first.1 all)

marked-off : (mark ds : List ℕ) → byte_digits mark ≡ [] → ¬ (mark ≡ []) → list_all is_ascii_digit (mark ++ ds) ≡ false
marked-off [] ds none given = absurd (given refl)
marked-off (c ∷ mark) ds none given = let other = (first_other c mark none).0 in rw other refl

pub tail-cut : (f : FormatData) (front ds : List ℕ) → IsPlainFormat f → list_all is_ascii_digit ds ≡ true
    → tail_digits (front ++ (f.decimal ++ ds)) ≡ length ds
tail-cut f front ds p all =
    let none = (plain-mark f p).digits in
    tail-skip front (f.decimal ++ ds) (marked-off f.decimal ds none p.marks.mark.given) ∙ tail-marked f.decimal ds none all

-- so a text has as many decimals as digits at its end, if it has some
pub tail-signed : (f : FormatData) (t : List ℕ) (b : Bool) (n k : ℕ) → IsPlainFormat f → 0 < k → IsSigned f t b n k → tail_digits t ≡ k
tail-signed f t b n k p some signed =
    let ds = last_digits k n in
    let tail = tail-cut f signed.whole (plain ds) p (all-plain ds (last_digits-below k n)) in
    cc (signed.text, mark-some f k some, tail, length-plain k n)

no_digits : (s : List ℕ) → byte_digits s ≡ [] → All (λ b. is_ascii_digit b ≡ false) s
no_digits [] none = All-nil (λ b. is_ascii_digit b ≡ false)
no_digits (b ∷ s) none =
    let first = first_other b s none in
    All-cons (λ b. is_ascii_digit b ≡ false) b s first.0 (no_digits s first.1)

-- between separated digits stand separators, or nothing
module _ (P : List ℕ → Type 0) (is_due : ℕ → Bool) (s : List ℕ) (none : byte_digits s ≡ []) where
  runs-digit : (d : ℕ) (ds run rest : List ℕ) → d < 10 → byte_digits run ≡ []
      → slice_split is_ascii_digit (run ++ (separated is_due s (d ∷ ds) ++ rest))
      ≡ run ∷ slice_split is_ascii_digit ((if is_due (length ds) then s else []) ++ (separated is_due s ds ++ rest))
  runs-digit d ds run rest small plain =
      slice_split_at is_ascii_digit run (48 + d) ((if is_due (length ds) then s else []) ++ separated is_due s ds ++ rest)
      (no_digits run plain) (is_ascii_digit-digit d small)
      ∙ ap (λ t. run ∷ slice_split is_ascii_digit t) (append_assoc (if is_due (length ds) then s else []) (separated is_due s ds) rest)

  runs-separated : (ds run : List ℕ) → AreDigits ds → byte_digits run ≡ [] → P run → P [] → P s
      → AllByRecursion P (slice_split is_ascii_digit (run ++ (separated is_due s ds ++ [])))
  runs-separated [] run below plain here empty separator =
      rw (append-nil run, slice_split_none is_ascii_digit run (no_digits run plain)) (here, tt)
  runs-separated (d ∷ ds) run below plain here empty separator =
      let due = is_due (length ds) in
      subst (AllByRecursion P) (sym (runs-digit d ds run [] (All-head (λ x. x < 10) d ds below) plain)) (
        here,
        runs-separated ds (if due then s else []) (All-tail (λ x. x < 10) d ds below)
            (of_either (λ xs. byte_digits xs ≡ []) refl due s none) (of_either P empty due s separator) empty separator,
      )

  -- and so is a mark that follows such digits
  runs-mark : (mark ds es run : List ℕ) → is_due 0 ≡ false → byte_digits mark ≡ [] → byte_digits run ≡ [] → AreDigits ds → AreDigits es
      → 0 < length ds → AllByRecursion P (slice_split is_ascii_digit (run ++ (separated is_due s ds ++ (mark ++ plain es)))) → P mark
  runs-mark mark [] es run last plain_mark plain_run below digit some all = absurd (omega arith)
  runs-mark mark (d ∷ []) es run last plain_mark plain_run below digit some all =
      let tail = subst (AllByRecursion P) (runs-digit d [] run (mark ++ plain es) (All-head (λ x. x < 10) d [] below) plain_run) all in
      first-run es digit (subst (λ (b : Bool). AllByRecursion P (slice_split is_ascii_digit ((if b then s else []) ++ (mark ++ plain es))))
      last tail.1)
    where
      first-run : (es : List ℕ) → AreDigits es → AllByRecursion P (slice_split is_ascii_digit (mark ++ plain es)) → P mark
      first-run [] digit all = (rw (append-nil mark, slice_split_none is_ascii_digit mark (no_digits mark plain_mark)) at all).0
      first-run (e ∷ es) digit all = (subst (AllByRecursion P) (slice_split_at is_ascii_digit mark (48 + e) (plain es)
          (no_digits mark plain_mark) (is_ascii_digit-digit e (All-head (λ x. x < 10) e es digit))) all).0
  runs-mark mark (d ∷ c ∷ ds) es run last plain_mark plain_run below digit some all =
      let due = is_due (length (c ∷ ds)) in
      let first = All-head (λ x. x < 10) d (c ∷ ds) below in
      let tail = subst (AllByRecursion P) (runs-digit d (c ∷ ds) run (mark ++ plain es) first plain_run) all in
      runs-mark mark (c ∷ ds) es (if due then s else []) last plain_mark (of_either (λ xs. byte_digits xs ≡ []) refl due s none)
      (All-tail (λ x. x < 10) d (c ∷ ds) below) digit (omega arith) tail.1

-- so a text with decimals is not one without
none_at_zero : (f : FormatData) (t : List ℕ) (b : Bool) (n k : ℕ) → IsPlainFormat f → 0 < k → IsSigned f t b n 0 → ¬ (IsSigned f t b n k)
none_at_zero f t b n k p some whole parts =
    let s = printed_separator f.grouping f.separator in
    let none = (plain-printed f p).digits in
    let ds = digits (n / 10 ^ 0) in
    let es = digits (n / 10 ^ k) in
    let sign : List ℕ = if b then f.minus_sign else [] in
    let first = is-separated f whole.amount.grouping ds (digits_given (n / 10 ^ 0)) whole.amount.either in
    let second = is-separated f parts.amount.grouping es (digits_given (n / 10 ^ k)) parts.amount.either in
    let rest = f.decimal ++ plain (last_digits k n) in
    let one : t ≡ sign ++ (separated first.is_due s ds ++ []) =
    cc (whole.text, whole.amount.text, first.same, append_assoc sign (separated first.is_due s ds) []) in
    let two : t ≡ sign ++ (separated second.is_due s es ++ rest) =
    cc (parts.text, parts.amount.text, second.same, append_assoc sign (separated second.is_due s es) rest, mark-some f k some) in
    let P = λ (xs : List ℕ). ¬ (f.decimal ≡ xs) in
    let all =
    runs-separated P first.is_due s none ds [] (digits-below_ten (n / 10 ^ 0)) refl p.marks.mark.given p.marks.mark.given p.marks.mark.apart in
    runs-mark P second.is_due s none f.decimal es (last_digits k n) [] second.last (plain-mark f p).digits refl
    (digits-below_ten (n / 10 ^ k)) (last_digits-below k n) (digits_given (n / 10 ^ k))
    (subst (λ xs. AllByRecursion P (slice_split is_ascii_digit xs)) (append_cancel_left sign _ _ (sym one ∙ two)) all) refl

-- and has one scale at most
pub one_scale : (f : FormatData) (t : List ℕ) (z : ℤ) (j k : ℕ) → IsPlainFormat f → IsCanonicalDecimal f t (fixed_point z j)
    → IsCanonicalDecimal f t (fixed_point z k) → j ≡ k
one_scale f t z j k p first second = pick j k (signed-canonical f t (fixed_point z j) first)
    (signed-canonical f t (fixed_point z k) second)
  where
    pick : (j k : ℕ) → IsSigned f t (is_negative z) (unsigned_abs z) j → IsSigned f t (is_negative z) (unsigned_abs z) k → j ≡ k
    pick zero zero a b = refl
    pick zero (suc k) a b = absurd (none_at_zero f t _ _ (suc k) p (omega arith) a b)
    pick (suc j) zero a b = absurd (none_at_zero f t _ _ (suc j) p (omega arith) b a)
    pick (suc j) (suc k) a b = sym (tail-signed f t _ _ (suc j) p (omega arith) a) ∙ tail-signed f t _ _ (suc k) p (omega arith) b

-- and is canonical for one decimal at most
pub canonical_once : (f : FormatData) (t : List ℕ) (a b : FixedPoint) → IsPlainFormat f → IsCanonicalDecimal f t a
    → IsCanonicalDecimal f t b → a ≡ b
canonical_once f t a b p first second =
    let units : a.units ≡ b.units = sym (denoted-decimal f t a.units a.scale (tells-canonical_decimal f t a.units a.scale p first))
    ∙ denoted-decimal f t b.units b.scale (tells-canonical_decimal f t b.units b.scale p second) in
    ap (λ z. fixed_point z a.scale) units ∙ ap (fixed_point b.units) (one_scale f t b.units a.scale b.scale p
    (subst (λ z. IsCanonicalDecimal f t (fixed_point z a.scale)) units first) second)
