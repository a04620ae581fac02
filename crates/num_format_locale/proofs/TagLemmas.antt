-- Lemmas on tags that are names, in any case.
use Rattle.std.proofs.Common.{◌≡◌, ℕ, ◌<◌, ◌≤◌, ◌&&◌, ◌||◌, inl, inr, List, [], ◌∷◌, length, arith, refl, sym, ap, subst, ◌∙◌, Option, Some}
use Rattle.std.proofs.Common.{None, Bool, true, false, cond, not, codes, nat_eq}
use Rattle.std.specs.Char.{to_ascii_lowercase}
use Rattle.std.specs.Cmp.{first_so, second_so}
use Rattle.std.specs.List.{list_all, take_while}
use Rattle.std.specs.Str.{bytes_eq}
use Rattle.std.proofs.lemmas.Bool.Decides.{nat_tests}
use Rattle.std.proofs.lemmas.List.{take_all}
use Rattle.std.proofs.lemmas.List.Sums.{AllPass-from_list_all, take_while-cons}
use Rattle.std.proofs.lemmas.Slice.Eq.{bytes_eq-Decides}
use lib.Utf8.{encode}
use Rattle.num_format_cldr.specs.declared.TheConstants.{LEN}
use Rattle.num_format_cldr.specs.Families.{families}
use Rattle.num_format_cldr.specs.Table.{members, table_names}
use Rattle.num_format_cldr.proofs.Rising.{Rises-from_test}
use Rattle.num_format_locale.specs.Laws.{FoundByTagLaw}
use Rattle.num_format_locale.specs.Lookup.{IsLongestMatch, IsPosix, IsSameIgnoringCase, LooksUpTag, Matches, ends_language, language_of}
use Rattle.num_format_locale.specs.Names.{name_of}
use Rattle.num_format_locale.specs.Search.{hyphen_for_underscore, hyphened}
use Rattle.num_format_locale.proofs.LookupLemmas.{beginning, length-lower_names, length-name, lower, lower_name_at, lower_names}
use Rattle.num_format_locale.proofs.LookupLemmas.{lower_names_pass, same_length}
use Rattle.num_format_locale.proofs.NameLemmas.{length-table_names, same_place}

-- whether a byte is none of `.`, `@` and `_`
abbrev is_plain : ℕ → Bool
is_plain each = not ((nat_eq each 46 || nat_eq each 64) || nat_eq each 95)

-- whether a name in lower case has no other byte, and is not `c` or `posix`
abbrev is_ordinary : List ℕ → Bool
is_ordinary name = list_all is_plain (lower name) && (not (bytes_eq (lower name) (codes "c"))
    && not (bytes_eq (lower name) (codes "posix")))

-- computed over all names
names_are_ordinary : list_all is_ordinary table_names ≡ true
unfolding encode families members table_names
names_are_ordinary = refl

ordinary : (place : ℕ) → place < LEN → is_ordinary (name_of place) ≡ true
ordinary place within = AllPass-from_list_all is_ordinary table_names names_are_ordinary place [] (omega (arith, length-table_names))

-- a byte whose lower case is plain is plain too
stays_plain : (x : ℕ) → is_plain (to_ascii_lowercase x) ≡ true → not (ends_language x) ≡ true
stays_plain x plain = grind (arith, nat_tests)

stays_itself : (x : ℕ) → is_plain (to_ascii_lowercase x) ≡ true → hyphen_for_underscore x ≡ x
stays_itself x plain = grind (arith, nat_tests)

-- so a text of such bytes is its own language, and has no underscore
own_language : (text : List ℕ) → list_all is_plain (lower text) ≡ true → language_of text ≡ text
own_language [] plain = refl
own_language (x ∷ xs) plain =
    let stays : ℕ → Bool = λ each. not (ends_language each) in
    take_while-cons stays x xs
    ∙ ap (λ b. cond b (x ∷ take_while stays xs) []) (stays_plain x (first_so _ _ plain))
    ∙ ap (λ t. x ∷ t) (own_language xs (second_so _ _ plain))

own_hyphens : (text : List ℕ) → list_all is_plain (lower text) ≡ true → hyphened text ≡ text
own_hyphens [] plain = refl
own_hyphens (x ∷ xs) plain = λ i. stays_itself x (first_so _ _ plain) i ∷ own_hyphens xs (second_so _ _ plain) i

-- a test that fails, and the fact for which it stands
differs : (s t : List ℕ) → not (bytes_eq s t) ≡ true → s ≡ t → ⊥
differs s t fails same =
    let equal : bytes_eq s t ≡ true = (bytes_eq-Decides s t).1 same in
    let both : false ≡ true = subst (λ b. not b ≡ true) equal fails in cc

-- a tag that is a name in any case
module _ (tag : List ℕ) (place : ℕ) (within : place < LEN) (same : IsSameIgnoringCase tag (name_of place)) where
  plain : list_all is_plain (lower tag) ≡ true
  plain = subst (λ t. list_all is_plain t ≡ true) (sym same) (first_so _ _ (ordinary place within))

  language : language_of tag ≡ tag
  language = own_language tag plain

  whole : hyphened (language_of tag) ≡ tag
  whole = ap hyphened language ∙ own_hyphens tag plain

  not_posix : ¬ IsPosix tag
  not_posix (inl c) = differs (lower (name_of place)) (codes "c") (first_so _ _ (second_so _ _ (ordinary place within))) (sym same ∙ c)
  not_posix (inr posix) = differs (lower (name_of place)) (codes "posix") (second_so _ _ (second_so _ _ (ordinary place within))) (sym same
      ∙ posix)

  -- its longest match is that name
  its_match : (other : ℕ) → IsLongestMatch tag other → other ≡ place
  its_match other so =
      let at = beginning tag (name_of other) so.matches in
      let as_long : length (name_of place) ≤ length (name_of other) = so.longest place within (inl same) in
      let other_length : length (name_of other) ≡ at.0 = length-name tag (name_of other) at.0 at.1 in
      let tag_length : length tag ≡ length (name_of place) = same_length tag (name_of place) same in
      let in_tag : at.0 ≤ length tag = at.1.within in
      let is_other : IsSameIgnoringCase tag (name_of other) = subst (λ t. IsSameIgnoringCase t (name_of other))
      (take_all at.0 tag (omega arith)) at.1.same in
      same_place lower_names (Rises-from_test lower_names lower_names_pass) other place
      (let bound = so.within in omega (arith, length-lower_names)) (omega (arith, length-lower_names))
      (lower_name_at other so.within ∙ sym is_other ∙ same ∙ sym (lower_name_at place within))

  found_here : (result : Option ℕ) → LooksUpTag tag result → result ≡ Some place
  found_here (Some other) so =
      ap Some (its_match other (subst (λ t. IsLongestMatch t other) whole (so.longest (subst (λ t. ¬ IsPosix t) (sym language) not_posix))))
  found_here None so = absurd (so.missing place within (subst (λ t. Matches t (name_of place)) (sym whole) (inl same)))

-- a tag that is a name in any case is looked up as that locale
pub found_by_tag : FoundByTagLaw
found_by_tag tag place result within same so = found_here tag place within same result so

-- a byte is its own part of a language too, if it is plain with a hyphen for an underscore
stays_hyphened : (x : ℕ) → is_plain (to_ascii_lowercase (hyphen_for_underscore x)) ≡ true → not (ends_language x) ≡ true
stays_hyphened x plain = grind (arith, nat_tests)

own_language_hyphened : (text : List ℕ) → list_all is_plain (lower (hyphened text)) ≡ true → language_of text ≡ text
own_language_hyphened [] _ = refl
own_language_hyphened (x ∷ xs) whole_plain =
    let stays : ℕ → Bool = λ each. not (ends_language each) in
    take_while-cons stays x xs
    ∙ ap (λ b. cond b (x ∷ take_while stays xs) []) (stays_hyphened x (first_so _ _ whole_plain))
    ∙ ap (λ t. x ∷ t) (own_language_hyphened xs (second_so _ _ whole_plain))

-- a tag that is a name, with hyphens or with underscores
module _ (tag : List ℕ) (place : ℕ) (within : place < LEN) (same : hyphened tag ≡ name_of place) where
  its_language : language_of tag ≡ tag
  its_language =
      own_language_hyphened tag (subst (λ t. list_all is_plain (lower t) ≡ true) (sym same) (first_so _ _ (ordinary place within)))

  -- it is no word that is not ordinary
  other_word : (word : List ℕ) → list_all is_plain word ≡ true → not (bytes_eq (lower (name_of place)) word) ≡ true → lower tag ≡ word → ⊥
  other_word word plain fails is =
      let itself : hyphened tag ≡ tag = own_hyphens tag (subst (λ t. list_all is_plain t ≡ true) (sym is) plain) in
      differs (lower (name_of place)) word fails (ap lower (sym same ∙ itself) ∙ is)

  its_word : ¬ IsPosix tag
  its_word (inl c) = other_word (codes "c") refl (first_so _ _ (second_so _ _ (ordinary place within))) c
  its_word (inr posix) = other_word (codes "posix") refl (second_so _ _ (second_so _ _ (ordinary place within))) posix

  longest_here : IsLongestMatch (name_of place) place
  longest_here = record {
    within = within;
    matches = inl refl;
    longest = λ other bound matches.
        let at = beginning (name_of place) (name_of other) matches in
        let long : length (name_of other) ≡ at.0 = length-name (name_of place) (name_of other) at.0 at.1 in
        let inside : at.0 ≤ length (name_of place) = at.1.within in
        omega arith;
  }

  -- it is looked up as the locale of this name
  pub name_looked_up : LooksUpTag tag (Some place)
  name_looked_up = record {
    within = within;
    posix = λ posix. absurd (its_word (subst IsPosix its_language posix));
    longest = λ _. subst (λ t. IsLongestMatch t place) (sym (ap hyphened its_language ∙ same)) longest_here;
    other = tt;
    missing = tt;
  }
