-- Lemmas on the pairs of letters with which names begin.
use Rattle.std.proofs.Common.{◌≡◌, ℕ, zero, suc, ◌+◌, ◌<◌, ◌≤◌, ◌&&◌, List, [], ◌∷◌, length, slice_index, slice_index_or, arith, ap, subst}
use Rattle.std.proofs.Common.{sym, Bool, true, false}
use Rattle.std.specs.Prelude.{nat_le, nat_lt}
use Rattle.std.specs.Char.{IsAsciiLowercase, to_ascii_lowercase}
use Rattle.std.specs.Cmp.{first_so, second_so}
use Rattle.std.specs.List.{list_all}
use Rattle.std.proofs.lemmas.Bool.{leb-true, ltb-true}
use Rattle.std.proofs.lemmas.Bool.Decides.{nat_tests}
use Rattle.std.proofs.lemmas.List.{length-map}
use Rattle.std.proofs.lemmas.List.Sums.{AllPass-from_list_all}
use Rattle.num_format_cldr.specs.declared.TheConstants.{LEN}
use Rattle.num_format_cldr.specs.Table.{table_names}
use Rattle.num_format_locale.specs.Lookup.{IsSameIgnoringCase}
use Rattle.num_format_locale.specs.Names.{name_of}
use Rattle.num_format_locale.specs.Pairs.{IsListed, IsOfPair, ListsPairs, pairs, place_of_pair}
use Rattle.num_format_locale.specs.Search.{hyphen_for_underscore, hyphened}
use Rattle.num_format_locale.proofs.NameLemmas.{length-table_names}

-- whether a byte is a lowercase letter
abbrev is_letter : ℕ → Bool
is_letter each = nat_le 97 each && nat_le each 122

-- whether a place is one of a pair
abbrev is_of_pair : List ℕ → ℕ → ℕ → Bool
is_of_pair begins place pair = nat_le (slice_index begins pair) place && nat_lt place (slice_index begins (pair + 1))

-- whether the name at a place is listed
abbrev is_listed : List ℕ → ℕ → List ℕ → Bool
is_listed begins place [] = false
is_listed begins place (first ∷ []) = false
is_listed begins place (first ∷ (second ∷ rest)) = (is_letter first && is_letter second)
    && is_of_pair begins place (place_of_pair first second)

-- whether names are, the first of them at a place
abbrev are_listed : List ℕ → ℕ → List (List ℕ) → Bool
are_listed begins place [] = true
are_listed begins place (name ∷ names) = is_listed begins place name && are_listed begins (suc place) names

-- whether places do not fall
abbrev are_rising : List ℕ → Bool
are_rising [] = true
are_rising (place ∷ []) = true
are_rising (place ∷ (next ∷ places)) = nat_le place next && are_rising (next ∷ places)

rising_at : (begins : List ℕ) → are_rising begins ≡ true → (k : ℕ) → suc k < length begins
    → slice_index begins k ≤ slice_index begins (suc k)
rising_at [] h k within = absurd (omega arith)
rising_at (place ∷ []) h k within = absurd (omega arith)
rising_at (place ∷ (next ∷ places)) h zero within = leb-true _ _ (first_so _ _ h)
rising_at (place ∷ (next ∷ places)) h (suc k) within = rising_at (next ∷ places) (second_so _ _ h) k (omega arith)

-- what these tests say
letter : (each : ℕ) → is_letter each ≡ true → IsAsciiLowercase each
letter each h = (leb-true _ _ (first_so _ _ h), leb-true _ _ (second_so _ _ h))

listed : (begins : List ℕ) (place : ℕ) (name : List ℕ) → is_listed begins place name ≡ true → IsListed begins place name
listed begins place [] h = cc
listed begins place (first ∷ []) h = cc
listed begins place (first ∷ (second ∷ rest)) h =
    let letters = first_so _ _ h in
    let around = second_so _ _ h in
    record {
      first_letter = letter first (first_so _ _ letters);
      second_letter = letter second (second_so _ _ letters);
      from = leb-true _ _ (first_so _ _ around);
      below = ltb-true _ _ (second_so _ _ around);
    }

listed_at : (begins : List ℕ) (place : ℕ) (names : List (List ℕ)) → are_listed begins place names ≡ true → (k : ℕ) → k < length names
    → IsListed begins (place + k) (slice_index_or names k [])
listed_at begins place [] h k within = absurd (omega arith)
listed_at begins place (name ∷ names) h zero within =
    let here : place ≡ place + 0 = omega arith in
    subst (λ p. IsListed begins p name) here (listed begins place name (first_so _ _ h))
listed_at begins place (name ∷ names) h (suc k) within =
    let here : suc place + k ≡ place + suc k = omega arith in
    subst (λ p. IsListed begins p (slice_index_or names k [])) here (listed_at begins (suc place) names (second_so _ _ h) k (omega arith))

-- a list of places that passes the tests
pub lists_pairs : (begins : List ℕ) → length begins ≡ pairs + 1 → list_all (λ place. nat_le place LEN) begins ≡ true
    → are_rising begins ≡ true → are_listed begins 0 table_names ≡ true → ListsPairs begins
lists_pairs begins count within rising listed = record {
  count = count;
  rising = λ pair bound.
      let next : suc pair ≡ pair + 1 = omega arith in
      subst (λ p. slice_index begins pair ≤ slice_index begins p) next (rising_at begins rising pair (omega (arith, count)));
  within = λ k d bound. leb-true _ _ (AllPass-from_list_all (λ place. nat_le place LEN) begins within k d bound);
  listed = λ place bound.
      let here : 0 + place ≡ place = omega arith in
      subst (λ p. IsListed begins p (name_of place)) here (listed_at begins 0 table_names listed place (omega (arith, length-table_names)));
}

-- a byte that is a letter in lower case, with a hyphen for an underscore, is that letter
stays : (each wanted : ℕ) → IsAsciiLowercase wanted → to_ascii_lowercase (hyphen_for_underscore each) ≡ to_ascii_lowercase wanted
    → to_ascii_lowercase each ≡ wanted
stays each wanted letter h = grind (arith, nat_tests)

-- a text that is a name in any case has two letters, and the name's place is one of their pair
pub long : (begins : List ℕ) (place : ℕ) (text name : List ℕ) → IsListed begins place name → IsSameIgnoringCase (hyphened text) name
    → 2 ≤ length text
long begins place text [] so same = absurd so
long begins place text (n ∷ []) so same = absurd so
long begins place text (n ∷ (m ∷ name)) so same =
    let lengths = simp length-map at (ap length same) in omega (arith, lengths)

pub of_pair : (begins : List ℕ) (place : ℕ) (text name : List ℕ) (d e : ℕ) → IsListed begins place name
    → IsSameIgnoringCase (hyphened text) name → IsOfPair begins place (to_ascii_lowercase (slice_index_or text 0 d))
    (to_ascii_lowercase (slice_index_or text 1 e))
of_pair begins place text [] d e so same = absurd so
of_pair begins place text (n ∷ []) d e so same = absurd so
of_pair begins place [] (n ∷ (m ∷ name)) d e so same = cc
of_pair begins place (first ∷ []) (n ∷ (m ∷ name)) d e so same = cc
of_pair begins place (first ∷ (second ∷ rest)) (n ∷ (m ∷ name)) d e so same =
    let first_same : to_ascii_lowercase (hyphen_for_underscore first) ≡ to_ascii_lowercase n = cc in
    let second_same : to_ascii_lowercase (hyphen_for_underscore second) ≡ to_ascii_lowercase m = cc in
    subst (λ each. IsOfPair begins place (to_ascii_lowercase first) each) (sym (stays second m so.second_letter second_same))
    (subst (λ each. IsOfPair begins place each m) (sym (stays first n so.first_letter first_same)) so)
