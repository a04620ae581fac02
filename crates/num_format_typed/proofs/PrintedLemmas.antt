-- A printed text stands for itself: the minus sign of the format or none, and digits between which the format's own symbols stand.
use Rattle.std.proofs.Common.{◌≡◌, ℕ, ◌-◌, inl, inr, Bool, true, false, List, [], ◌∷◌, ◌++◌}
use Rattle.std.proofs.Common.{length, drop, refl, ap, ◌∙◌, sym, subst, append_assoc, map, filter, IsUtf8}
use Rattle.std.specs.Prelude.{◌==◌, nat_eq}
use Rattle.std.specs.Char.{is_ascii_digit}
use Rattle.std.specs.Cmp.{first_so, second_so}
use Rattle.std.specs.List.{list_all, list_any, starts_with}
use Rattle.std.specs.Str.{chars, encode_utf8_all}
use lib.Utf8.{scalars}
use Rattle.std.proofs.lemmas.Bool.{and_from, cases_Bool, or_left, or_right}
use Rattle.std.proofs.lemmas.Bool.Decides.{Decides-eqb}
use Rattle.std.proofs.lemmas.List.{drop_at}
use Rattle.std.proofs.lemmas.Slice.Eq.{starts_is}
use Rattle.std.proofs.lemmas.Str.{IsUtf8-append, chars-append, chars-encodes, chars_past_char}
use Rattle.std.proofs.lemmas.Str.{encode_ascii, encodes-append, encodes-chars, scalars-chars}
use Rattle.num_format_text.specs.Format.{FormatData}
use Rattle.num_format_typed.specs.Classes.{is_direction, is_of, is_space}
use Rattle.num_format_typed.specs.Trimming.{EndsInDigit, trim_end, trim_front, without_end, without_front}
use Rattle.num_format_typed.specs.Typed.{IsTypable, begins_with, core_of, first_is, is_nonzero_digit, is_own}
use Rattle.num_format_typed.specs.Typed.{put, separator_of, trimmed, typed_text}
use Rattle.num_format_typed.specs.declared.classes.Class.{Class}
use Rattle.num_format_typed.specs.declared.classes.Class.TheVariants.{Minus, Plus, Direction, End}
use Rattle.num_format_typed.proofs.ClassLemmas.{of-digit}
use Rattle.num_format_rewriting.proofs.DigitLemmas.{ascii}
use Rattle.num_format_typed.proofs.DigitLemmas.{end-digit}
use Rattle.num_format_typed.proofs.RewritingLemmas.{images-own}

-- what is trimmed, and what is left
front-split : (p : ℕ → Bool) (cs : List ℕ) → (front : List ℕ) × (cs ≡ front ++ trim_front p cs) × (list_all p front ≡ true)
front-split p [] = ([], refl, refl)
front-split p (c ∷ cs) =
    elim (cases_Bool (p c)) [
      | inl passes ↦
          let rest = front-split p cs in
          (c ∷ rest.0, rw passes (ap (λ l. c ∷ l) rest.1), and_from _ _ passes rest.2)
      | inr other ↦ ([], rw other refl, refl)
    ]

end-split : (p : ℕ → Bool) (cs : List ℕ) → (back : List ℕ) × (cs ≡ trim_end p cs ++ back) × (list_all p back ≡ true)
end-split p [] = ([], refl, refl)
end-split p (c ∷ cs) =
    elim (cases_Bool (list_all p (c ∷ cs))) [
      | inl all ↦ (c ∷ cs, rw all refl, all)
      | inr other ↦ let rest = end-split p cs in (rest.0, rw other (ap (λ l. c ∷ l) rest.1), rest.2)
    ]

front-past : (p : ℕ → Bool) (front cs : List ℕ) → list_all p front ≡ true → trim_front p (front ++ cs) ≡ trim_front p cs
front-past p [] cs all = refl
front-past p (c ∷ front) cs all = let passes : p c ≡ true = first_so _ _ all in rw passes (front-past p front cs (second_so _ _ all))

marks-end : (cs : List ℕ) → list_all (is_of Direction) cs ≡ true → list_all (is_of End) cs ≡ true
marks-end [] all = refl
marks-end (c ∷ cs) all =
    let mark : is_direction c ≡ true = first_so _ _ all in
    let end : is_of End c ≡ true =
    or_left _ (c == 13) (or_left _ (c == 10) (or_left _ (c == 9) (or_right (is_space c) (is_direction c) mark))) in
    and_from _ _ end (marks-end cs (second_so _ _ all))

scalars-parts : (xs ys : List ℕ) → scalars (xs ++ ys) ≡ true → (scalars xs ≡ true) × (scalars ys ≡ true)
scalars-parts [] ys both = (refl, both)
scalars-parts (x ∷ xs) ys both =
    let rest = scalars-parts xs ys (second_so _ _ both) in
    (and_from _ _ (first_so _ _ both) rest.0, rest.1)

utf8-encoded : (cs : List ℕ) → scalars cs ≡ true → IsUtf8 (encode_utf8_all cs)
utf8-encoded cs scalar = (cs, (scalar, refl))

-- a digit that is found
digit-found : (xs ys : List ℕ) (d : ℕ) → is_ascii_digit d ≡ true → ¬ (map (λ c. c - 48) (filter is_ascii_digit (xs ++ (d ∷ ys))) ≡ [])
digit-found [] ys d digit none = let wrong = rw digit at none in absurd (cc wrong)
digit-found (x ∷ xs) ys d digit none =
    elim (cases_Bool (is_ascii_digit x)) [
      | inl found ↦ let wrong = rw found at none in absurd (cc wrong)
      | inr other ↦ let later = rw other at none in digit-found xs ys d digit later
    ]

-- what follows the sign of a printed text
pub record IsPrintedBody (f : FormatData) (b : List ℕ) : Type 0 where
  pub utf8 : IsUtf8 b
  pub first : ℕ
  pub rest : List ℕ
  pub begins : b ≡ first ∷ rest
  pub digit : is_ascii_digit first ≡ true
  pub ends : EndsInDigit b
  pub own : is_own (separator_of f) f.decimal b ≡ true

-- the characters of the minus sign: marks of direction, those of its core, and such marks again
record IsSign (f : FormatData) : Type 0 where
  before : List ℕ
  middle : List ℕ
  after : List ℕ
  sign : chars f.minus_sign ≡ before ++ (middle ++ after)
  core : core_of f ≡ encode_utf8_all middle
  scalar : scalars middle ≡ true
  scalar_after : scalars after ≡ true
  marks : list_all (is_of Direction) before ≡ true
  marks_after : list_all (is_of Direction) after ≡ true

sign-split : (f : FormatData) → IsUtf8 f.minus_sign → IsSign f
sign-split f utf8 =
    let all = chars f.minus_sign in
    let front = front-split (is_of Direction) all in
    let left = trim_front (is_of Direction) all in
    let back = end-split (is_of Direction) left in
    let middle = trim_end (is_of Direction) left in
    let scalar_left = (scalars-parts front.0 left (subst (λ cs. scalars cs ≡ true) front.1 (scalars-chars f.minus_sign utf8))).1 in
    let parts = scalars-parts middle back.0 (subst (λ cs. scalars cs ≡ true) back.1 scalar_left) in
    record {
      before = front.0;
      middle = middle;
      after = back.0;
      sign = front.1 ∙ ap (λ l. front.0 ++ l) back.1;
      core = ap (λ cs. encode_utf8_all (trim_end (is_of Direction) cs)) (chars-encodes left scalar_left);
      scalar = parts.0;
      scalar_after = parts.1;
      marks = front.2;
      marks_after = back.2;
    }

module _ (f : FormatData) (typable : IsTypable f) (utf8_sign : IsUtf8 f.minus_sign) (b : List ℕ) (printed : IsPrintedBody f b) where
  sign : IsSign f
  sign = sign-split f utf8_sign

  -- the core begins with a character that is not trimmed
  core-first : (c : ℕ) × (cs : List ℕ) × (sign.middle ≡ c ∷ cs) × (is_of End c ≡ false)
  core-first = from sign.middle refl
    where
      from : (m : List ℕ) → sign.middle ≡ m → (c : ℕ) × (cs : List ℕ) × (sign.middle ≡ c ∷ cs) × (is_of End c ≡ false)
      from [] same = absurd (typable.given (sign.core ∙ ap encode_utf8_all same))
      from (c ∷ cs) same =
          (c, cs, same, sym (ap (first_is End) (ap chars sign.core ∙ chars-encodes sign.middle sign.scalar ∙ same)) ∙ typable.seen)

  first-char : chars b ≡ printed.first ∷ chars printed.rest
  first-char = chars_past_char b printed.rest printed.first printed.utf8
      (printed.begins ∙ ap (λ e. e ++ printed.rest) (sym (encode_ascii printed.first (ascii printed.first printed.digit))))

  body-begins : (k : Class) → trim_front (is_of k) (chars b) ≡ chars b
  body-begins k = rw (first-char, of-digit k printed.first printed.digit) refl

  body-kept : (k : Class) → without_front (is_of k) b ≡ b
  body-kept k = ap encode_utf8_all (body-begins k) ∙ encodes-chars b printed.utf8

  -- no body begins with a minus sign
  unsigned-body : starts_with nat_eq b (core_of f) ≡ false
  unsigned-body =
      elim (cases_Bool (starts_with nat_eq b (core_of f))) [
        | inl begins ↦
            let rest = drop (length (core_of f)) b in
            let split : b ≡ core_of f ++ rest = (starts_is Decides-eqb b (core_of f) _ refl).0 begins in
            let first = core-first in
            let characters : chars b ≡ first.0 ∷ (first.1 ++ chars rest) =
            ap chars (split ∙ ap (λ l. l ++ rest) sign.core) ∙ chars-append _ rest (utf8-encoded sign.middle sign.scalar)
            ∙ ap (λ l. l ++ chars rest) (chars-encodes sign.middle sign.scalar ∙ first.2) in
            let same : printed.first ≡ first.0 = cc (sym first-char ∙ characters) in
            absurd (digit-found sign.before (first.1 ++ sign.after) first.0 (subst (λ c. is_ascii_digit c ≡ true) same printed.digit)
            (ap (λ cs. map (λ c. c - 48) (filter is_ascii_digit cs))
            (ap (λ l. sign.before ++ (l ++ sign.after)) (sym first.2) ∙ sym sign.sign) ∙ typable.unambiguous.sign.no_digit))
        | inr other ↦ other
      ]

  pub typed-body : typed_text f b ≡ b
  typed-body =
      let trim : trimmed b ≡ b = ap (without_end (is_of End)) (body-kept End) ∙ sym (end-digit End b printed.utf8 printed.ends) in
      let minus : begins_with Minus b ≡ false = ap (first_is Minus) first-char ∙ of-digit Minus printed.first printed.digit in
      let plus : begins_with Plus b ≡ false = ap (first_is Plus) first-char ∙ of-digit Plus printed.first printed.digit in
      rw (trim, unsigned-body, minus, plus, body-kept Direction, unsigned-body)
      (images-own (put (separator_of f) f.decimal) b printed.utf8 printed.own)

  -- a text with a minus sign, and what is left of it when it is trimmed
  module _ (nonzero : list_any is_nonzero_digit b ≡ true) where
    abbrev tail : List ℕ
    tail = encode_utf8_all sign.after ++ b

    abbrev inner : List ℕ
    inner = core_of f ++ tail

    utf8-tail : IsUtf8 tail
    utf8-tail = IsUtf8-append (encode_utf8_all sign.after) b (utf8-encoded sign.after sign.scalar_after) printed.utf8

    tail-chars : chars tail ≡ sign.after ++ chars b
    tail-chars = chars-append _ b (utf8-encoded sign.after sign.scalar_after)
        ∙ ap (λ l. l ++ chars b) (chars-encodes sign.after sign.scalar_after)

    utf8-inner : IsUtf8 inner
    utf8-inner = IsUtf8-append (core_of f) tail (subst IsUtf8 (sym sign.core) (utf8-encoded sign.middle sign.scalar)) utf8-tail

    front-trimmed : without_front (is_of End) (f.minus_sign ++ b) ≡ inner
    front-trimmed =
        let first = core-first in
        let middle = sign.middle ++ (sign.after ++ chars b) in
        let stops : trim_front (is_of End) middle ≡ middle = rw (first.2, first.3) refl in
        let split : chars (f.minus_sign ++ b) ≡ sign.before ++ middle =
        chars-append f.minus_sign b utf8_sign ∙ ap (λ l. l ++ chars b) sign.sign
        ∙ append_assoc sign.before (sign.middle ++ sign.after) (chars b)
        ∙ ap (λ l. sign.before ++ l) (append_assoc sign.middle sign.after (chars b)) in
        ap encode_utf8_all (ap (trim_front (is_of End)) split ∙ front-past (is_of End) sign.before middle (marks-end sign.before sign.marks)
        ∙ stops ∙ ap (λ l. sign.middle ++ l) (sym tail-chars))
        ∙ encodes-append sign.middle (chars tail) ∙ ap (λ l. l ++ encode_utf8_all (chars tail)) (sym sign.core)
        ∙ ap (λ l. core_of f ++ l) (encodes-chars tail utf8-tail)

    inner-ends : EndsInDigit inner
    inner-ends =
        let ends = printed.ends in
        let after = encode_utf8_all sign.after in (
          core_of f ++ (after ++ ends.0),
          ends.1,
          ap (λ l. core_of f ++ (after ++ l)) ends.2
              ∙ ap (λ l. core_of f ++ l) (sym (append_assoc after ends.0 (ends.1 ∷ [])))
              ∙ sym (append_assoc (core_of f) (after ++ ends.0) (ends.1 ∷ [])),
          ends.3,
        )

    pub typed-signed : typed_text f (f.minus_sign ++ b) ≡ f.minus_sign ++ b
    typed-signed =
        let trim : trimmed (f.minus_sign ++ b) ≡ inner = ap (without_end (is_of End)) front-trimmed
        ∙ sym (end-digit End inner utf8-inner inner-ends) in
        let begins : starts_with nat_eq inner (core_of f) ≡ true = (starts_is Decides-eqb inner (core_of f) _ refl).1 tail refl in
        let left : drop (length (core_of f)) inner ≡ tail = drop_at (core_of f) tail _ refl in
        let body : without_front (is_of Direction) tail ≡ b =
        ap encode_utf8_all (ap (trim_front (is_of Direction)) tail-chars
        ∙ front-past (is_of Direction) sign.after (chars b) sign.marks_after
        ∙ body-begins Direction) ∙ encodes-chars b printed.utf8 in
        rw (trim, begins, left, body, nonzero)
        (ap (λ l. f.minus_sign ++ l) (images-own (put (separator_of f) f.decimal) b printed.utf8 printed.own))
