-- A text that is canonical for no number is refused for a cause, which nothing has to compute.
use Rattle.std.proofs.Common.{◌≡◌, ℕ, zero, suc, ◌+◌, ◌-◌, ◌⊎◌, inl, inr, ◌&&◌, List, [], ◌∷◌, ℤ, length, drop, drop-drop}
use Rattle.std.proofs.Common.{refl, ◌∙◌, sym, arith}
use Rattle.std.specs.Prelude.{IsUtf8, bytes_eq}
use Rattle.std.specs.Char.{is_ascii_digit}
use Rattle.std.specs.Str.{chars, encode_utf8_all}
use Rattle.std.proofs.lemmas.Bool.{and_parts, both_ways, cases_Bool, cases_lt}
use Rattle.std.proofs.lemmas.List.{drop_all}
use Rattle.std.proofs.lemmas.Slice.Eq.{bytes_eq-Decides}
use Rattle.std.proofs.lemmas.Str.{encodes-chars, scalars-chars}
use lib.Utf8.{scalars}
use Rattle.num_format_text.specs.Format.{FormatData}
use Rattle.num_format_int.specs.Grouped.{printed_separator}
use Rattle.num_format_int.specs.Kind.{Kind}
use Rattle.num_format_parsing.specs.Reading.{text_digits}
use Rattle.num_format_parsing.specs.Shapes.{HasPlainSymbols}
use Rattle.num_format_parsing.specs.Strict.{IsCause, IsExpected, IsCanonical, begins, sign_len, unexpected, unread}
use Rattle.num_format_parsing.specs.declared.error.StrictError.{StrictError}
use Rattle.num_format_parsing.specs.declared.error.StrictError.TheVariants.{NotUtf8, Unexpected, NoDigit, Misspelled}

-- bytes are UTF-8 or they are not
pub utf8-or-not : (t : List ℕ) → IsUtf8 t ⊎ ¬ (IsUtf8 t)
utf8-or-not t =
    elim (cases_Bool (scalars (chars t) && bytes_eq (encode_utf8_all (chars t)) t)) [
      | inl passes ↦ (let both = and_parts (scalars (chars t)) _ passes in inl (chars t, (both.0, (bytes_eq-Decides _ _).0 both.1)))
      | inr fails ↦ inr (λ utf8. both_ways _ fails (rw (scalars-chars t utf8) ((bytes_eq-Decides _ _).1 (encodes-chars t utf8))))
    ]

-- what is left unread is the end of a text
pub unread-place : (s : List ℕ) (k : ℕ) (t : List ℕ) → (n : ℕ) × (unread s k t ≡ drop n t)
unread-place s zero [] = (0, refl)
unread-place s (suc k) [] = (0, refl)
unread-place s (suc k) (b ∷ t) = let left = unread-place s k t in (suc left.0, left.1)
unread-place s zero (b ∷ t) =
    elim (cases_Bool (begins s (b ∷ t))) [
      | inl begin ↦ (let left = unread-place s (length s - 1) t in (suc left.0, rw begin left.1))
      | inr other ↦ elim (cases_Bool (is_ascii_digit b)) [
        | inl digit ↦ (let left = unread-place s 0 t in (suc left.0, rw (other, digit) left.1))
        | inr none ↦ (0, rw (other, none) refl)
      ]
    ]

module _ (k : Kind) (f : FormatData) (t : List ℕ) (symbols : HasPlainSymbols f) (none : (z : ℤ) → ¬ (IsCanonical f t z)) where
  by_digits : IsExpected f t → (ds : List ℕ) → text_digits t ≡ ds → (e : StrictError) × IsCause k f t e
  by_digits expected [] empty = (NoDigit, (symbols.unambiguous, record { expected = expected; none = empty }))
  by_digits expected (d ∷ ds) some =
      let given : ¬ (text_digits t ≡ []) = λ empty. (let wrong = sym some ∙ empty in cc) in
      (Misspelled, (symbols.unambiguous, record { expected = expected; some = given; wrong = none }))

  by_place : IsUtf8 t → (at : ℕ) → unexpected f t ≡ drop at t → (e : StrictError) × IsCause k f t e
  by_place utf8 at rest =
      elim (cases_lt at (length t)) [
        | inl inside ↦ (Unexpected at, (symbols.unambiguous, record { utf8 = utf8; inside = inside; rest = rest }))
        | inr outside ↦ by_digits (record { utf8 = utf8; rest = rest ∙ drop_all at t (omega (arith, outside)) }) (text_digits t) refl
      ]

  pub cause-given : (e : StrictError) × IsCause k f t e
  cause-given =
      elim (utf8-or-not t) [
        | inl utf8 ↦ (let place = unread-place (printed_separator f.grouping f.separator) 0 (drop (sign_len f t) t) in
            by_place utf8 (sign_len f t + place.0) (place.1 ∙ drop-drop place.0 (sign_len f t) t))
        | inr not ↦ (NotUtf8, (symbols.unambiguous, not))
      ]
