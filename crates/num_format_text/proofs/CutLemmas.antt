-- The place where a text is truncated.
use Rattle.std.proofs.Common.{◌≡◌, ℕ, zero, suc, ◌<◌, ◌≤◌, ◌⊎◌, inl, inr, Bool, true, false, List, length, take, drop, refl, sym, ap, ◌∙◌}
use Rattle.std.proofs.Common.{subst, take-append-drop, length-append, length-take, arith, IsUtf8}
use Rattle.std.specs.Str.{IsCharBoundary}
use Rattle.std.proofs.lemmas.Bool.Decides.{nat_tests}
use Rattle.std.proofs.lemmas.List.{get_or_past, take_at}
use Rattle.std.proofs.lemmas.Str.{IsCharBoundary-start, IsCharBoundary-from_take, IsUtf8-take}
use Rattle.num_format_text.specs.Cut.{is_boundary, last_boundary, IsLongestPrefix}

-- the test of a boundary says what std's fact says
IsCharBoundary-from_test : (text : List ℕ) (place : ℕ) → is_boundary text place ≡ true → IsCharBoundary text place
IsCharBoundary-from_test text place test = grind (arith, nat_tests)

test-from_IsCharBoundary : (text : List ℕ) (place : ℕ) → IsCharBoundary text place → is_boundary text place ≡ true
test-from_IsCharBoundary text place boundary =
    let cases : (place < length text) ⊎ (length text ≤ place) = grind arith in
    elim cases [
      | inl inside ↦ let begins = boundary.1 inside in grind (arith, nat_tests)
      | inr at_end ↦ let nothing = get_or_past text place 0 at_end in grind (arith, nat_tests)
    ]

-- a test passes or fails
bool_cases : (b : Bool) → (b ≡ true) ⊎ (b ≡ false)
bool_cases true = inl cc
bool_cases false = inr cc

-- a boundary with no other after it, up to n, is the last one
pub last_boundary-is : (text : List ℕ) (n place : ℕ) → place ≤ n → IsCharBoundary text place
    → ((i : ℕ) → place < i → i ≤ n → ¬ (IsCharBoundary text i)) → last_boundary text n ≡ place
last_boundary-is text zero place within boundary none = omega arith
last_boundary-is text (suc n) place within boundary none =
    let cases : (place ≡ suc n) ⊎ (place ≤ n) = grind arith in
    elim cases [
      | inl last ↦ let test = test-from_IsCharBoundary text place boundary in rw (← last, test)
      | inr below ↦
          elim (bool_cases (is_boundary text (suc n))) [
            | inl test ↦ absurd (none (suc n) (omega arith) (omega arith) (IsCharBoundary-from_test text (suc n) test))
            | inr test ↦ rw test (last_boundary-is text n place below boundary (λ i above upto. none i above (omega arith)))
          ]
    ]

-- in a text, the last boundary is one
last_boundary-boundary : (text : List ℕ) (n : ℕ) → IsUtf8 text → IsCharBoundary text (last_boundary text n)
last_boundary-boundary text zero utf8 = IsCharBoundary-start text utf8
last_boundary-boundary text (suc n) utf8 =
    elim (bool_cases (is_boundary text (suc n))) [
      | inl test ↦ rw test (IsCharBoundary-from_test text (suc n) test)
      | inr test ↦ rw test (last_boundary-boundary text n utf8)
    ]

-- it is not past n
last_boundary-le : (text : List ℕ) (n : ℕ) → last_boundary text n ≤ n
last_boundary-le text zero = omega arith
last_boundary-le text (suc n) =
    let before = last_boundary-le text n in
    elim (bool_cases (is_boundary text (suc n))) [
      | inl test ↦ rw test (omega arith)
      | inr test ↦ rw test (omega arith)
    ]

-- and no boundary up to n is past it
last_boundary-last : (text : List ℕ) (n place : ℕ) → place ≤ n → IsCharBoundary text place → place ≤ last_boundary text n
last_boundary-last text zero place within boundary = omega arith
last_boundary-last text (suc n) place within boundary =
    elim (bool_cases (is_boundary text (suc n))) [
      | inl test ↦ rw test within
      | inr test ↦
          let cases : (place ≡ suc n) ⊎ (place ≤ n) = grind arith in
          elim cases [
            | inl last ↦ let passes = test-from_IsCharBoundary text place boundary in let both : is_boundary text (suc n) ≡ true =
                ap (is_boundary text) (sym last) ∙ passes in cc
            | inr below ↦ rw test (last_boundary-last text n place below boundary)
          ]
    ]

-- so the text up to there is its longest prefix of whole characters within n bytes
pub longest_prefix : (n : ℕ) (text : List ℕ) → IsUtf8 text → IsLongestPrefix n text (take (last_boundary text n) text)
longest_prefix n text utf8 =
    let end = last_boundary text n in
    let boundary = last_boundary-boundary text n utf8 in
    let long : length (take end text) ≡ end = omega (arith, length-take end text, boundary.0) in
    record {
      begins = (drop end text, sym (take-append-drop end text));
      whole = IsUtf8-take text end utf8 boundary;
      fits = omega (arith, long, last_boundary-le text n);
      longest = λ other rest split whole few.
          let same : take (length other) text ≡ other = ap (take (length other)) split ∙ take_at other rest (length other) refl in
          let within : length other ≤ length text = omega (arith, ap length split, length-append other rest) in
          let cut = IsCharBoundary-from_take text (length other) utf8 within (subst IsUtf8 (sym same) whole) in
          omega (arith, long, last_boundary-last text n (length other) few cut);
    }
