-- num_format_digits/proofs/laws/canonical_texts/Answers.antt
use Rattle.std.proofs.Common.{◌≡◌, ◌∙◌, ℕ, ℤ, List, ap, refl, subst, sym, IsUtf8}
use Rattle.std.proofs.lemmas.Str.{IsUtf8-nil}
use Rattle.num_format_text.specs.Format.{FormatData}
use Rattle.num_format_parsing.specs.Shapes.{HasPlainSymbols}
use Rattle.num_format_parsing.specs.Strict.{IsCanonical}
use Rattle.num_format_parsing.proofs.CommonLemmas.{of_printed}
use Rattle.num_format_parsing.proofs.SymbolLemmas.{plain-symbols}
use Rattle.num_format_digits.specs.Digits.{HasOneSet, IsZero, ascii_of, in_digits}
use Rattle.num_format_digits.specs.Laws.{IsCanonicalIn}
use Rattle.num_format_digits.proofs.TextLemmas.{one_set, canonical_back}
use Rattle.num_format_digits.proofs.laws.canonical_texts.Goals as goal

-- what is canonical for n is shown, and is of one set
shown : (z : ℕ) (f : FormatData) (t a : List ℕ) (n : ℤ) → IsZero z → HasPlainSymbols f → IsCanonical f a n → t ≡ in_digits z a
    → HasOneSet z t × IsCanonical f (ascii_of z t) n
shown z f t a n is symbols is_canonical same =
    let back = canonical_back z f t a n is symbols is_canonical same in
    (back.1, subst (λ x. IsCanonical f x n) (sym back.2) is_canonical)

-- one way and the other
there : (z : ℕ) (f : FormatData) (t : List ℕ) (n : ℤ) → IsZero z → HasPlainSymbols f → IsCanonicalIn z f t n → HasOneSet z t
    × IsCanonical f (ascii_of z t) n
there z f t n is symbols (IsCanonicalIn.with_separators same) = shown z f t _ n is symbols (IsCanonical.with_separators refl) same
there z f t n is symbols (IsCanonicalIn.without_separators same) = shown z f t _ n is symbols (IsCanonical.without_separators refl) same

back : (z : ℕ) (f : FormatData) (t a : List ℕ) (n : ℤ) → in_digits z a ≡ t → IsCanonical f a n → IsCanonicalIn z f t n
back z f t a n same (IsCanonical.with_separators e) = IsCanonicalIn.with_separators (sym same ∙ ap (in_digits z) e)
back z f t a n same (IsCanonical.without_separators e) = IsCanonicalIn.without_separators (sym same ∙ ap (in_digits z) e)

pub returns : goal.returns
returns c = λ z f t n is unambiguous texts utf8.
    let symbols = plain-symbols f unambiguous texts.minus_sign (of_printed IsUtf8 IsUtf8-nil f.grouping f.separator texts.separator) in
    (there z f t n is symbols, λ both. back z f t (ascii_of z t) n (one_set z t is utf8 both.0) both.1)
