-- What is left of a text after digits and separators.
use Rattle.std.proofs.Common.{◌≡◌, ℕ, zero, suc, ◌+◌, ◌-◌, ◌<◌, ◌≤◌, inl, inr, Bool, true, false, List, [], ◌∷◌, ◌++◌, length, refl, ap}
use Rattle.std.proofs.Common.{◌∙◌, sym, arith, drop, get_or, length-append}
use Rattle.std.specs.Prelude.{if◌then◌else◌, nat_eq, All}
use Rattle.std.specs.Char.{is_ascii_digit}
use Rattle.std.specs.List.{starts_with}
use Rattle.std.proofs.lemmas.Bool.{cases_Bool, both_ways, false_from_ne_true}
use Rattle.std.proofs.lemmas.Bool.Decides.{Decides-eqb}
use Rattle.std.proofs.lemmas.List.{drop_at}
use Rattle.std.proofs.lemmas.List.Elements.{All-head, All-tail}
use Rattle.std.proofs.lemmas.Slice.Eq.{starts_is}
use Rattle.num_format_int.specs.Grouped.{separated}
use Rattle.num_format_parsing.specs.Strict.{unread, begins}
use Rattle.num_format_parsing.specs.Shapes.{byte_digits}
use Rattle.num_format_parsing.proofs.DigitLemmas.{text_digits-digit}
use Rattle.num_format_parsing.proofs.ReadingLemmas.{is_ascii_digit-digit}

unread-skip : (s : List ℕ) (k : ℕ) (t : List ℕ) → unread s k t ≡ unread s 0 (drop k t)
unread-skip s zero t = refl
unread-skip s (suc k) [] = refl
unread-skip s (suc k) (b ∷ t) = unread-skip s k t

-- a separator is read whole
pub unread-begins : (s t : List ℕ) → begins s t ≡ true → unread s 0 t ≡ unread s 0 (drop (length s) t)
unread-begins [] t wrong = cc
unread-begins (c ∷ s) [] begin = refl
unread-begins (c ∷ s) (b ∷ t) begin =
    let rest : length (c ∷ s) - 1 ≡ length s = omega arith in
    rw begin (ap (λ k. unread (c ∷ s) k t) rest ∙ unread-skip (c ∷ s) (length s) t)

-- a digit where no separator stands
pub unread-digit : (s t : List ℕ) (b : ℕ) → begins s (b ∷ t) ≡ false → is_ascii_digit b ≡ true → unread s 0 (b ∷ t) ≡ unread s 0 t
unread-digit s t b none digit = rw (none, digit)

pub begins-given : (s t : List ℕ) → 0 < length s → begins s t ≡ starts_with nat_eq t s
begins-given [] t some = absurd (omega arith)
begins-given (c ∷ s) t some = refl

-- no text begins with a separator whose first byte is another
pub begins-off : (s t : List ℕ) → ¬ (get_or t 0 0 ≡ get_or s 0 0) → begins s t ≡ false
begins-off [] t other = refl
begins-off (c ∷ s) t other = false_from_ne_true _ (λ begin.
    let split = (starts_is Decides-eqb t (c ∷ s) (starts_with nat_eq t (c ∷ s)) refl).0 begin in
    other (ap (λ xs. get_or xs 0 0) split))

-- what begins with a separator is it and the rest
pub begins-split : (s t : List ℕ) → begins s t ≡ true → t ≡ s ++ drop (length s) t
begins-split [] t begin = refl
begins-split (c ∷ s) t begin = (starts_is Decides-eqb t (c ∷ s) (starts_with nat_eq t (c ∷ s)) refl).0 begin

pub begins-append : (s t rest : List ℕ) → 0 < length s → t ≡ s ++ rest → begins s t ≡ true
begins-append s t rest some same = begins-given s t some ∙ (starts_is Decides-eqb t s (starts_with nat_eq t s) refl).1 rest same

-- a text that begins with a separator is as long at least
pub begins-fits : (s t : List ℕ) → begins s t ≡ true → length s ≤ length t
begins-fits s t begin = omega (arith, ap length (begins-split s t begin), length-append s (drop (length s) t))

-- the first byte of a separator without digits
pub plain-first : (c : ℕ) (s : List ℕ) → byte_digits (c ∷ s) ≡ [] → is_ascii_digit c ≡ false
plain-first c s none =
    elim (cases_Bool (is_ascii_digit c)) [
      | inl digit ↦ (let wrong = sym (text_digits-digit c s digit) ∙ none in cc)
      | inr other ↦ other
    ]

-- no such separator begins at a digit
pub begins-at_digit : (s t : List ℕ) (b : ℕ) → byte_digits s ≡ [] → is_ascii_digit b ≡ true → begins s (b ∷ t) ≡ false
begins-at_digit [] t b none digit = refl
begins-at_digit (c ∷ s) t b none digit =
    begins-off (c ∷ s) (b ∷ t) (λ same. both_ways _ (plain-first c s none) (ap is_ascii_digit (sym same) ∙ digit))

unread-whole : (s t : List ℕ) → unread s 0 (s ++ t) ≡ unread s 0 t
unread-whole [] t = refl
unread-whole (c ∷ s) t =
    unread-begins (c ∷ s) (c ∷ s ++ t) (begins-append (c ∷ s) (c ∷ s ++ t) t (omega arith) refl)
    ∙ ap (unread (c ∷ s) 0) (drop_at (c ∷ s) t (length (c ∷ s)) refl)

-- digits with such a separator are read to their end
pub unread-separated : (is_due : ℕ → Bool) (s ds : List ℕ) → byte_digits s ≡ [] → All (λ d. d < 10) ds
    → unread s 0 (separated is_due s ds) ≡ []
unread-separated is_due s [] none below = refl
unread-separated is_due s (d ∷ ds) none below =
    let digit = is_ascii_digit-digit d (All-head (λ x. x < 10) d ds below) in
    let right = separated is_due s ds in
    let rest = (if is_due (length ds) then s else []) ++ right in
    let tail = unread-separated is_due s ds none (All-tail (λ x. x < 10) d ds below) in
    unread-digit s rest (48 + d) (begins-at_digit s rest (48 + d) none digit) digit
    ∙ elim (cases_Bool (is_due (length ds))) [
      | inl due ↦ rw due (unread-whole s right ∙ tail)
      | inr plain ↦ rw plain tail
    ]
