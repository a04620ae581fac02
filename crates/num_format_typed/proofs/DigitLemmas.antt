-- Digits stand for themselves, and end a text that is trimmed.
use Rattle.std.proofs.Common.{◌≡◌, ℕ, None, List, [], ◌∷◌, ◌++◌, true, length, take, refl, sym, ap, ◌∙◌, arith, subst, IsUtf8}
use Rattle.std.proofs.Common.{length-append}
use Rattle.std.specs.Prelude.{get_or}
use Rattle.std.specs.Char.{is_ascii_digit}
use Rattle.std.specs.Str.{chars, encode_utf8_all}
use Rattle.std.proofs.lemmas.List.{get_or_push, take_at}
use Rattle.std.proofs.lemmas.Str.{IsCharBoundary-before_ascii, IsUtf8-take, encode_ascii, encodes-chars}
use Rattle.num_format_rewriting.specs.Rewriting.{KeepsDigits}
use Rattle.num_format_rewriting.proofs.DigitLemmas.{ascii}
use Rattle.num_format_typed.specs.Classes.{class_of, is_of}
use Rattle.num_format_typed.specs.Trimming.{EndsInDigit, trim_end, without_end}
use Rattle.num_format_typed.specs.Typed.{own_or, put}
use Rattle.num_format_typed.specs.declared.classes.Class.{Class}
use Rattle.num_format_typed.specs.declared.classes.Class.TheVariants.{Space, Apostrophe, Comma, Point}
use Rattle.num_format_typed.proofs.ClassLemmas.{of-digit}
use Rattle.num_format_typed.proofs.RewritingLemmas.{chars-push, trim_end-kept}

class_of-digit : (c : ℕ) → is_ascii_digit c ≡ true → class_of c ≡ None
class_of-digit c digit = rw (of-digit Comma c digit, of-digit Point c digit, of-digit Space c digit, of-digit Apostrophe c digit)

pub put-digit : (separator mark : List ℕ) → KeepsDigits (put separator mark)
put-digit separator mark c digit = ap (λ k. own_or separator mark k c) (class_of-digit c digit)

-- one that ends in a digit is trimmed at its end
pub end-digit : (k : Class) (t : List ℕ) → IsUtf8 t → EndsInDigit t → t ≡ without_end (is_of k) t
end-digit k t utf8 ends =
    let front = ends.0 in
    let d = ends.1 in
    let same : t ≡ front ++ d ∷ [] = ends.2 in
    let digit = ends.3 in
    let last : get_or t (length front) 0 ≡ d = ap (λ l. get_or l (length front) 0) same ∙ get_or_push front d 0 (length front) refl in
    let boundary = IsCharBoundary-before_ascii t (length front) (omega (arith, ap length same, length-append front (d ∷ [])))
    (omega (arith, last, ascii d digit)) in
    let utf8_front : IsUtf8 front = subst IsUtf8 (ap (take (length front)) same ∙ take_at front (d ∷ []) (length front) refl)
    (IsUtf8-take t (length front) utf8 boundary) in
    let split = chars-push t front d utf8 utf8_front (same ∙ ap (λ e. front ++ e) (sym (encode_ascii d (ascii d digit)))) in
    sym (encodes-chars t utf8)
    ∙ ap encode_utf8_all (split ∙ sym (trim_end-kept (is_of k) (chars front) d (of-digit k d digit)) ∙ ap (trim_end (is_of k)) (sym split))
