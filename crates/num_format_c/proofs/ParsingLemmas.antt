-- What parsing returns, as it crosses to C.
use Rattle.std.proofs.Common.{◌≡◌, ◌⊎◌, inl, inr, refl, IsUtf8, ℕ, ℤ, List, ap, sym, ◌∙◌, subst, Result, Ok, Err}
use Rattle.num_format.specs.Format.{FormatData}
use Rattle.num_format.specs.Kind.{Kind}
use Rattle.num_format.specs.Strict.{IsUnambiguous, ParsesStrictly}
use Rattle.num_format.specs.StrictError.{StrictError}
use Rattle.num_format.specs.StrictError.TheVariants as cause
use Rattle.num_format_digits.specs.Parsing.{InDigits, ParsesDigits}
use Rattle.num_format_digits.specs.declared.parsing.DigitsError.{DigitsError}
use Rattle.num_format_c.specs.Calls.{Crosses, Gets, Parsing, crossed, digits_place_of, digits_status_of, place_after}
use Rattle.num_format_c.specs.FormatRef.{IsFormatIn, format_of}
use Rattle.num_format_c.specs.declared.format.NumFormat.{NumFormat}
use Rattle.num_format_c.specs.declared.status.Status.{Status}
use Rattle.num_format_c.specs.declared.status.Status.TheVariants.{AmbiguousFormat}

-- an error under a format by which a text can be misread crosses as one of the format
pub ambiguous : {X E : Type 0} {status : E → Status} {place : E → ℕ → ℕ} {r : Result X E} {old new : ℕ} {y : Result X Status} (e : E)
    → Crosses status place r old new y → status e ≡ AmbiguousFormat → place e old ≡ old → r ≡ Err e
    → (y ≡ Err AmbiguousFormat) × (new ≡ old)
ambiguous {status} {place} {old} e c same stays is =
    (c.returned ∙ ap (crossed status) is ∙ ap Err same, c.written ∙ ap (λ q. place_after place q old) is ∙ stays)

pub strict_ambiguous : {X : Type 0} {k : Kind} {value : X → ℤ} {f : FormatData} {t : List ℕ} {r : Result X StrictError}
    → ParsesStrictly k value f t r → ¬ IsUnambiguous f → r ≡ Err cause.AmbiguousFormat
strict_ambiguous p none = (p.refused cause.AmbiguousFormat).1 none

module _ {X E : Type 0} (p : Parsing X E) {s : NumFormat} {text : List ℕ} {f : FormatData} {zero : ℕ} (is : IsFormatIn f zero s) where
  -- a text is parsed in 0 to 9, or is not UTF-8
  pub gets_latin : {old new : ℕ} {r : Result X E} {y : Result X Status} → (¬ p.way.Takes f → (y ≡ Err AmbiguousFormat) × (new ≡ old))
      → (zero ≡ 48) ⊎ (¬ IsUtf8 text) → p.way.Returns f text r → Crosses p.status p.place r old new y → Gets p s text old new y
  gets_latin {old} {new} {r} {y} refused either parsed crosses = record {
    bad_format = λ none. absurd (none is.has_format);
    ambiguous = λ _ none. refused (λ takes. none (subst p.way.Takes is.format takes));
    parsed = λ _ _ _. (r, subst (λ g. p.way.Returns g text r) is.format parsed, crosses);
    in_digits = λ _ _ other utf8. absurd (elim either [ inl latin ↦ other (sym is.digits ∙ latin) | inr none ↦ none utf8 ]);
  }

  -- a text is parsed in other digits
  pub gets_in : {old new : ℕ} {r : Result X (DigitsError E)} {y : Result X Status} → p.way.Takes f → ¬ (zero ≡ 48) → IsUtf8 text
      → ParsesDigits p.placed (p.way.Returns f) zero text r → Crosses (digits_status_of p.status) (digits_place_of p.place) r old new y
      → Gets p s text old new y
  gets_in {old} {new} {r} {y} takes other utf8 parsed crosses = record {
    bad_format = λ none. absurd (none is.has_format);
    ambiguous = λ _ none. absurd (none (subst p.way.Takes is.format takes));
    parsed = λ _ _ either. absurd (elim either [ inl latin ↦ other (is.digits ∙ latin) | inr none ↦ none utf8 ]);
    in_digits = λ _ _ _ _. (
      r,
      subst (λ z. ParsesDigits p.placed (p.way.Returns (format_of s)) z text r) is.digits
          (subst (λ g. ParsesDigits p.placed (p.way.Returns g) zero text r) is.format parsed),
      crosses,
    );
  }

  -- a number of a text in other digits
  pub gets_shown : {at : ℕ} (n : X) → ¬ (zero ≡ 48) → IsUtf8 text × InDigits p.way p.placed f zero text (Ok n) → Gets p s text at at (Ok n)
  gets_shown n other (utf8, inl none) = let wrong = none.1 in cc
  gets_shown n other (utf8, inr shown) = gets_in {r = Ok n} shown.0 other utf8 shown.1 record { returned = refl; written = refl }
