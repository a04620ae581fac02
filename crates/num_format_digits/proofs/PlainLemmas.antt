-- Texts without numerals but 0 to 9, and how they are written to an array.
use Rattle.std.proofs.Common.{◌≡◌, ℕ, Bool, true, ◌&&◌, not, List, [], ◌∷◌, ◌++◌, ap, refl, subst, ◌∙◌, sym}
use Rattle.std.proofs.Common.{◌+◌, ◌<◌, ◌≤◌, arith, get_or, length, set, take}
use Rattle.std.specs.Prelude.{Contains}
use Rattle.std.specs.Char.{is_ascii, is_ascii_digit}
use Rattle.std.specs.Cmp.{first_so, second_so}
use Rattle.std.specs.List.{list_all, list_any}
use Rattle.std.specs.Str.{chars, is_utf8}
use Rattle.std.proofs.lemmas.Bool.{and_from, not-true}
use Rattle.std.proofs.lemmas.Bool.Decides.{nat_tests}
use Rattle.std.proofs.lemmas.List.{take_more_set}
use Rattle.std.proofs.lemmas.List.Elements.{All-contains}
use Rattle.std.proofs.lemmas.List.Folds.{list_any-append}
use Rattle.std.proofs.lemmas.List.Sums.{AllPass-from_list_all}
use Rattle.std.proofs.lemmas.Str.{IsUtf8-append, IsUtf8-from_ascii, IsUtf8-from_is_utf8, IsUtf8-nil, chars-append}
use lib.Utf8.{encode}
unfoldable pub use Rattle.ucd_category.proofs.Computing.{ucd_category}
use Rattle.num_format_parsing.specs.Reading.{is_other_numeral}
use Rattle.num_format_parsing.proofs.NumberLemmas.{ascii-all, no_other-bytes}
use Rattle.num_format_digits.specs.Digits.{HasNoOthers, common_pairs, common_triples}

append : (xs ys : List ℕ) → HasNoOthers xs → HasNoOthers ys → HasNoOthers (xs ++ ys)
append xs ys p q = (
  IsUtf8-append xs ys p.0 q.0,
  ap (list_any is_other_numeral) (chars-append xs ys p.0) ∙ list_any-append is_other_numeral (chars xs) (chars ys) ∙ rw (p.1, q.1) refl,
)

-- none where there is nothing, and in a byte of ASCII
pub nothing : HasNoOthers []
nothing = (IsUtf8-nil, no_other-bytes [] refl)

pub one : (t : List ℕ) → 1 ≤ length t → is_ascii (get_or t 0 0) ≡ true → HasNoOthers (take 1 t)
one [] some ascii = absurd (omega arith)
one (b ∷ t) some ascii =
    let all : list_all is_ascii (b ∷ []) ≡ true = and_from _ _ ascii refl in
    (IsUtf8-from_ascii (b ∷ []) (ascii-all (b ∷ []) all), no_other-bytes (b ∷ []) all)

-- no common symbol is one
abbrev is_plain : List ℕ → Bool
is_plain t = is_utf8 t && not (list_any is_other_numeral (chars t))

pairs_plain : list_all (λ s. is_plain s) common_pairs ≡ true
unfolding chars is_utf8 encode ucd_category
pairs_plain = refl

triples_plain : list_all (λ s. is_plain s) common_triples ≡ true
unfolding chars is_utf8 encode ucd_category
triples_plain = refl

among : (symbols : List (List ℕ)) (t : List ℕ) → list_all (λ s. is_plain s) symbols ≡ true → Contains symbols t → HasNoOthers t
among symbols t all is =
    let passed = All-contains (λ s. is_plain s ≡ true) symbols t (AllPass-from_list_all (λ s. is_plain s) symbols all) is in
    (IsUtf8-from_is_utf8 t (first_so _ _ passed), not-true _ (second_so _ _ passed))

pub pair : (t : List ℕ) → Contains common_pairs t → HasNoOthers t
pair t is = among common_pairs t pairs_plain is

pub triple : (t : List ℕ) → Contains common_triples t → HasNoOthers t
triple t is = among common_triples t triples_plain is

-- none after one more digit, or one more symbol
pub plain_digit : (n d : ℕ) (a : List ℕ) → HasNoOthers (take n a) → is_ascii_digit d ≡ true → n < length a
    → HasNoOthers (take (n + 1) (set a n d))
plain_digit n d a before digit inside =
    let ascii : is_ascii d ≡ true = grind (arith, nat_tests, digit) in
    subst HasNoOthers (sym (take_more_set a n d inside)) (append (take n a) (d ∷ []) before (one (d ∷ []) (omega arith) ascii))

pub plain_symbol : (n k : ℕ) (a b t : List ℕ) → take (n + k) b ≡ take n a ++ take k t → HasNoOthers (take n a) → HasNoOthers (take k t)
    → HasNoOthers (take (n + k) b)
plain_symbol n k a b t copied front symbol = subst HasNoOthers (sym copied) (append (take n a) (take k t) front symbol)
