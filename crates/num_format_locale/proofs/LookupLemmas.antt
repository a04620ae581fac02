-- Lemmas on the look-up of a tag among the names, in any case.
use Rattle.std.proofs.Common.{◌≡◌, ℕ, zero, suc, ◌+◌, ◌-◌, ◌<◌, ◌≤◌, ◌⊎◌, inl, inr, List, [], ◌∷◌, ◌++◌, length, map, take, drop}
use Rattle.std.proofs.Common.{slice_index, slice_index_or, arith, refl, sym, ap, subst, ◌∙◌, Option, Some, None, Result, Ok, Err}
use Rattle.std.proofs.Common.{MatchResult, Bool, true, false, cond, not, min, codes, ◌≢◌, ◌↔◌}
use Rattle.std.specs.Prelude.{IfNone, IfSome, is_some, nat_le, nat_lt, unwrap_or}
use Rattle.std.specs.Borrow.{Bor}
use Rattle.std.specs.Char.{to_ascii_lowercase}
use Rattle.std.specs.Cmp.Lexicographic.{slice_cmp}
use Rattle.std.specs.List.{before_first, list_all, position_or_len, take_while}
use Rattle.std.specs.List.Sorted.{IsBinarySearchResult, IsNonDecreasingBy, IsSearchInRange}
use Rattle.std.specs.Ordering.{is_lt, nat_cmp, ordering_index, ordering_reverse}
use Rattle.std.specs.declared.cmp.Ordering.TheVariants.{Less, Equal}
use Rattle.std.proofs.Math.Nat.{eq-or-lt_of_le}
use Rattle.std.proofs.lemmas.Bool.{cases_lt, leb-true, ltb-false}
use Rattle.std.proofs.lemmas.Cmp.{nat_list_cmp_total, tied_itself}
use Rattle.std.proofs.lemmas.List.{drop_more, get_or-drop, get_or-map, get_or-take, get_or_at, length-append, length-drop, length-map}
use Rattle.std.proofs.lemmas.List.{length-take, length-take-le, take-append-drop, take-map, take-take, take_all, take_at, take_min}
use Rattle.std.proofs.lemmas.List.Sorted.{searchable_from_sorted}
use Rattle.std.proofs.lemmas.List.Sums.{AllPass-from_list_all, prefix_len-le-length, take_while-cons}
use lib.Utf8.{encode}
use Rattle.num_format_cldr.specs.declared.TheConstants.{LEN}
use Rattle.num_format_cldr.specs.Families.{families}
use Rattle.num_format_cldr.specs.Table.{members, table_names}
use Rattle.num_format_cldr.proofs.Rising.{rises, Rises-from_test}
use Rattle.num_format_locale.specs.Lookup.{IsLongestMatch, IsPosix, IsSameIgnoringCase, LooksUpTag, Matches, ends_language, language_of}
use Rattle.num_format_locale.specs.Names.{name_of}
use Rattle.num_format_locale.specs.Search.{hyphen_for_underscore, hyphened}
use Rattle.num_format_locale.proofs.NameLemmas.{length-table_names, name_at}
use Rattle.num_format_locale.proofs.SearchLemmas.{same_text}

-- a text in lower case
abbrev pub lower : List ℕ → List ℕ
lower text = map to_ascii_lowercase text

-- the names in lower case, in the order of their places
abbrev pub lower_names : List (List ℕ)
lower_names = map lower table_names

pub length-lower_names : length lower_names ≡ LEN
length-lower_names = length-map table_names lower ∙ length-table_names

pub lower_name_at : (place : ℕ) → place < LEN → slice_index_or lower_names place [] ≡ lower (name_of place)
lower_name_at place within = get_or-map lower table_names place [] [] (omega (arith, length-table_names))

-- they rise too, which is computed
pub lower_names_pass : rises lower_names ≡ true
unfolding encode families members table_names
lower_names_pass = refl

lower_rises : (p q : ℕ) → p < q → q < LEN → slice_cmp nat_cmp (lower (name_of p)) (lower (name_of q)) ≡ Less
lower_rises p q before within =
    ap (λ a. slice_cmp nat_cmp a (lower (name_of q))) (sym (lower_name_at p (omega arith)))
    ∙ ap (slice_cmp nat_cmp (slice_index_or lower_names p [])) (sym (lower_name_at q within))
    ∙ Rises-from_test lower_names lower_names_pass p q before (omega (arith, length-lower_names))

-- no name has more than 14 bytes, which is computed
names_are_short : list_all (λ name. nat_le (length name) 14) table_names ≡ true
unfolding encode families members table_names
names_are_short = refl

pub short : (place : ℕ) → place < LEN → length (name_of place) ≤ 14
short place within =
    leb-true _ _ (AllPass-from_list_all (λ name. nat_le (length name) 14) table_names names_are_short place []
    (omega (arith, length-table_names)))

-- the names from place `low` to before place `high`, behind references
module _ (names : List (Bor (List ℕ))) (listed : map (λ name. name.now) names ≡ table_names) (low high : ℕ) (ordered : low ≤ high)
    (within : high ≤ LEN) where
  abbrev part : List (Bor (List ℕ))
  part = take (high - low) (drop low names)

  length-names : length names ≡ LEN
  length-names = sym (length-map names (λ name. name.now)) ∙ ap length listed ∙ length-table_names

  length-part : length part ≡ high - low
  length-part = length-take (high - low) (drop low names) ∙ (let e = length-drop low names in omega (arith, e, length-names))

  part_at : (k : ℕ) (d : Bor (List ℕ)) → k < high - low → (slice_index_or part k d).now ≡ name_of (low + k)
  part_at k d inside =
      ap (λ name. name.now) (get_or-take (high - low) (drop low names) k d inside ∙ get_or-drop low names k d)
      ∙ name_at names (low + k) d listed (omega (arith, length-names))

  sorted : (text : List ℕ) → IsNonDecreasingBy (λ name. ordering_index (slice_cmp nat_cmp (lower name.now) text)) part
  sorted text = searchable_from_sorted nat_list_cmp_total (λ name. lower name.now) part text (λ k d _ inside.
      let next : k + 1 < high - low = omega (arith, length-part) in
      ap is_lt (ap (λ a. slice_cmp nat_cmp (lower a) (lower (slice_index_or part k d).now)) (part_at (k + 1) d next)
      ∙ ap (λ a. slice_cmp nat_cmp (lower (name_of (low + (k + 1)))) (lower a)) (part_at k d (omega arith))
      ∙ nat_list_cmp_total.antisymm (lower (name_of (low + (k + 1)))) (lower (name_of (low + k)))
      ∙ ap ordering_reverse (lower_rises (low + k) (low + (k + 1)) (omega arith) (omega arith))))

  -- what a binary search returns: the place in the part of the name that is the text in lower case, or that there is none
  pub searched : (text : List ℕ) (d : Bor (List ℕ)) (r : Result ℕ ℕ) → IsSearchInRange r (length part) →
      IsBinarySearchResult (λ name. slice_cmp nat_cmp (lower name.now) text) part r →
      MatchResult r
      (λ k. (low + k < LEN) × (text ≡ lower (name_of (low + k))))
      (λ _. (place : ℕ) → low ≤ place → place < high → ¬ (text ≡ lower (name_of place)))
  searched text d (Ok k) inside at =
      let here : k < high - low = omega (arith, length-part) in
      (omega arith, sym (same_text _ _ (at d)) ∙ ap lower (part_at k d here))
  searched text d (Err i) inside at = λ place from below same.
      let k : ℕ = place - low in
      let here : place - low < high - low = omega arith in
      let is : low + (place - low) ≡ place = omega arith in
      let equal : slice_cmp nat_cmp (lower (slice_index_or part (place - low) d).now) text ≡ Equal =
      ap (λ t. slice_cmp nat_cmp (lower t) text) (part_at (place - low) d here ∙ ap name_of is)
      ∙ ap (λ t. slice_cmp nat_cmp t text) (sym same) ∙ tied_itself nat_list_cmp_total text in
      elim (cases_lt (place - low) i) [
        | inl before ↦ let less = (at (sorted text)).0 (place - low) d (omega arith) before in cc
        | inr after ↦ let greater = (at (sorted text)).1 (place - low) d after (omega (arith, length-part)) in cc
      ]

-- texts that are the same in any case are equally long
pub same_length : (s t : List ℕ) → IsSameIgnoringCase s t → length s ≡ length t
same_length s t same = sym (length-map s to_ascii_lowercase) ∙ ap length same ∙ length-map t to_ascii_lowercase

-- a beginning of the language is all of it, or ends before a hyphen
abbrev pub Ends : List ℕ → ℕ → Type 0
Ends language end = (end ≡ length language) ⊎ ((end < length language) × (slice_index language end ≡ 45))

-- the name is the beginning of the language of this length
pub record IsBeginning (language name : List ℕ) (end : ℕ) : Type 0 where
  pub within : end ≤ length language
  pub ends : Ends language end
  pub same : IsSameIgnoringCase (take end language) name

-- the beginning is as long as the name
pub length-name : (language name : List ℕ) (end : ℕ) → IsBeginning language name end → length name ≡ end
length-name language name end so = sym (same_length (take end language) name so.same) ∙ length-take-le end language so.within

-- the names that match are such beginnings
pub beginning : (language name : List ℕ) → Matches language name → (end : ℕ) × IsBeginning language name end
beginning language name (inl same) = (
  length language,
  record {
    within = omega arith;
    ends = inl refl;
    same = subst (λ t. IsSameIgnoringCase t name) (sym (take_all (length language) language (omega arith))) same;
  },
)
beginning language name (inr at) =
    let lengths : length language ≡ length at.0 + suc (length at.1) = ap length at.2 ∙ length-append at.0 (45 ∷ at.1) in (
      length at.0,
      record {
        within = omega arith;
        ends = inr (omega arith, ap (λ t. slice_index t (length at.0)) at.2 ∙ get_or_at at.0 45 at.1 0 (length at.0) refl);
        same = subst (λ t. IsSameIgnoringCase t name) (sym (ap (take (length at.0)) at.2 ∙ take_at at.0 (45 ∷ at.1) (length at.0) refl))
            at.3;
      },
    )

pub matching : (language name : List ℕ) (end : ℕ) → IsBeginning language name end → Matches language name
matching language name end so =
    elim so.ends [
      | inl all ↦ inl (subst (λ t. IsSameIgnoringCase t name) (take_all end language (omega arith)) so.same)
      | inr hyphen ↦ inr (
        take end language,
        drop (end + 1) language,
        sym (take-append-drop end language)
            ∙ ap (λ t. take end language ++ t) (drop_more language end 0 hyphen.0 ∙ ap (λ x. x ∷ drop (end + 1) language) hyphen.1),
        so.same,
      )
    ]

-- no beginning that is longer than this one is a name
pub record IsLeft (language : List ℕ) (end : ℕ) : Type 0 where
  pub within : end ≤ length language
  pub ends : Ends language end
  pub longer : (other place : ℕ) → place < LEN → IsBeginning language (name_of place) other → other ≤ end

module _ (language : List ℕ) (end : ℕ) (left : IsLeft language end) where
  -- a beginning that is a name, is the longest match
  pub found : (place : ℕ) → place < LEN → IsSameIgnoringCase (take end language) (name_of place) → IsLongestMatch language place
  found place bound same =
      let here : IsBeginning language (name_of place) end = record { within = left.within; ends = left.ends; same = same } in
      record {
        within = bound;
        matches = matching language (name_of place) end here;
        longest = λ other other_bound matches.
            let at = beginning language (name_of other) matches in
            let no_longer : at.0 ≤ end = left.longer at.0 other other_bound at.1 in
            let other_length : length (name_of other) ≡ at.0 = length-name language (name_of other) at.0 at.1 in
            let this_length : length (name_of place) ≡ end = length-name language (name_of place) end here in
            omega arith;
      }

  module _ (missing : (place : ℕ) → place < LEN → ¬ IsSameIgnoringCase (take end language) (name_of place)) where
    shorter : (other place : ℕ) → place < LEN → IsBeginning language (name_of place) other → other < end
    shorter other place bound so =
        let no_longer : other ≤ end = left.longer other place bound so in
        elim (eq-or-lt_of_le no_longer) [
          | inl same ↦ absurd (missing place bound (subst (λ n. IsSameIgnoringCase (take n language) (name_of place)) same so.same))
          | inr less ↦ less
        ]

    -- where it is no name, the next beginning ends at the last hyphen before its end
    pub next : (hyphen : ℕ) → hyphen < end → slice_index language hyphen ≡ 45
        → ((k : ℕ) → hyphen < k → k < end → slice_index language k ≢ 45) → IsLeft language hyphen
    next hyphen before is none = record {
      within = let w = left.within in omega arith;
      ends = inr ((let w = left.within in omega arith), is);
      longer = λ other place bound so.
          let less : other < end = shorter other place bound so in
          let w : end ≤ length language = left.within in
          elim (cases_lt hyphen other) [
            | inl after ↦ elim so.ends [
              | inl all ↦ absurd (omega arith)
              | inr at ↦ absurd (none other after less at.1)
            ]
            | inr no_longer ↦ no_longer
          ];
    }

    -- without a hyphen there, no name matches
    pub none_matches : ((k : ℕ) → k < end → slice_index language k ≢ 45) → (place : ℕ) → place < LEN → ¬ Matches language (name_of place)
    none_matches none place bound matches =
        let at = beginning language (name_of place) matches in
        let less : at.0 < end = shorter at.0 place bound at.1 in
        let w : end ≤ length language = left.within in
        elim at.1.ends [
          | inl all ↦ omega arith
          | inr hyphen ↦ none at.0 less hyphen.1
        ]

-- what is before the first byte that passes, in the first bytes of a text
pub before_first-take : (p : ℕ → Bool) (n : ℕ) (text : List ℕ) → before_first p (take n text) ≡ take n (before_first p text)
before_first-take p zero text = refl
before_first-take p (suc n) [] = refl
before_first-take p (suc n) (x ∷ text) =
    let stays : ℕ → Bool = λ each. not (p each) in
    take_while-cons stays x (take n text)
    ∙ (elim (stays x) as (λ b. cond b (x ∷ take_while stays (take n text)) [] ≡ take (suc n) (cond b (x ∷ take_while stays text) [])) [
      | true ↦ ap (λ t. x ∷ t) (before_first-take p n text)
      | false ↦ refl
    ])
    ∙ ap (take (suc n)) (sym (take_while-cons stays x text))

-- a language, of which the first 15 bytes are looked at, and a text of at most 14 bytes
module _ (language name : List ℕ) (fits : length name ≤ 14) where
  length-head : length (take 15 language) ≡ min 15 (length language)
  length-head = length-take 15 language

  pub same_head : IsSameIgnoringCase (take 15 language) name → IsSameIgnoringCase language name
  same_head same =
      let lengths : length (take 15 language) ≡ length name = same_length (take 15 language) name same in
      subst (λ t. IsSameIgnoringCase t name) (take_all 15 language (omega (arith, length-head))) same

  pub same_whole : IsSameIgnoringCase language name → IsSameIgnoringCase (take 15 language) name
  same_whole same =
      let lengths : length language ≡ length name = same_length language name same in
      subst (λ t. IsSameIgnoringCase t name) (sym (take_all 15 language (omega arith))) same

  -- the text matches the first bytes exactly if it matches the language
  pub matches_head : Matches (take 15 language) name → Matches language name
  matches_head matches =
      let at = beginning (take 15 language) name matches in
      let end : length name ≡ at.0 = length-name (take 15 language) name at.0 at.1 in
      let w : at.0 ≤ length (take 15 language) = at.1.within in
      matching language name at.0 (record {
        within = omega (arith, length-head);
        ends = elim at.1.ends [
          | inl all ↦ inl (omega (arith, length-head))
          | inr hyphen ↦ inr (
            (let h = hyphen.0 in omega (arith, length-head)),
            sym (get_or-take 15 language at.0 0 (omega arith)) ∙ hyphen.1,
          )
        ];
        same = subst (λ t. IsSameIgnoringCase t name) (take-take at.0 15 language (omega arith)) at.1.same;
      })

  pub matches_whole : Matches language name → Matches (take 15 language) name
  matches_whole matches =
      let at = beginning language name matches in
      let end : length name ≡ at.0 = length-name language name at.0 at.1 in
      let w : at.0 ≤ length language = at.1.within in
      matching (take 15 language) name at.0 (record {
        within = omega (arith, length-head);
        ends = elim at.1.ends [
          | inl all ↦ inl (omega (arith, length-head))
          | inr hyphen ↦ inr ((let h = hyphen.0 in omega (arith, length-head)), get_or-take 15 language at.0 0 (omega arith) ∙ hyphen.1)
        ];
        same = subst (λ t. IsSameIgnoringCase t name) (sym (take-take at.0 15 language (omega arith))) at.1.same;
      })

-- a language is `C` or `POSIX` exactly if its first bytes are
pub posix_head : (language : List ℕ) → IsPosix (take 15 language) → IsPosix language
posix_head language (inl same) = inl (same_head language (codes "C") (omega arith) same)
posix_head language (inr same) = inr (same_head language (codes "POSIX") (omega arith) same)

pub posix_whole : (language : List ℕ) → IsPosix language → IsPosix (take 15 language)
posix_whole language (inl same) = inl (same_whole language (codes "C") (omega arith) same)
posix_whole language (inr same) = inr (same_whole language (codes "POSIX") (omega arith) same)

-- the longest match of the first bytes is that of the language
longest_of_head : (language : List ℕ) (place : ℕ) → IsLongestMatch (take 15 language) place → IsLongestMatch language place
longest_of_head language place so = record {
  within = so.within;
  matches = matches_head language (name_of place) (short place so.within) so.matches;
  longest = λ other bound matches. so.longest other bound (matches_whole language (name_of other) (short other bound) matches);
}

-- the name of the locale `en_US_POSIX`
pub posix_name : name_of 187 ≡ codes "en-US-POSIX"
unfolding encode families members table_names
posix_name = refl

-- the three results of a look-up
module _ (tag : List ℕ) where
  pub looked_up_posix : IsPosix (take 15 (language_of tag)) → LooksUpTag tag (Some 187)
  looked_up_posix posix = record {
    within = omega arith;
    posix = λ _. posix_name;
    longest = λ not_posix. absurd (not_posix (posix_head (language_of tag) posix));
    other = tt;
    missing = tt;
  }

  module _ (not_posix : ¬ IsPosix (take 15 (language_of tag))) where
    pub looked_up : (place : ℕ) → IsLongestMatch (hyphened (take 15 (language_of tag))) place → LooksUpTag tag (Some place)
    looked_up place so = record {
      within = so.within;
      posix = λ posix. absurd (not_posix (posix_whole (language_of tag) posix));
      longest = λ _. longest_of_head (hyphened (language_of tag)) place
          (subst (λ t. IsLongestMatch t place) (sym (take-map hyphen_for_underscore 15 (language_of tag))) so);
      other = tt;
      missing = tt;
    }

    pub not_found : ((place : ℕ) → place < LEN → ¬ Matches (hyphened (take 15 (language_of tag))) (name_of place)) → LooksUpTag tag None
    not_found none = record {
      within = tt;
      posix = λ _. tt;
      longest = λ _. tt;
      other = λ posix. not_posix (posix_whole (language_of tag) posix);
      missing = λ place bound matches. none place bound
          (subst (λ t. Matches t (name_of place)) (take-map hyphen_for_underscore 15 (language_of tag))
          (matches_whole (hyphened (language_of tag)) (name_of place) (short place bound) matches));
    }

-- the place of the first byte that passes, or the length
first_or_length : (place n : ℕ) (found : Option ℕ) → place ≤ n → found ≡ cond (nat_lt place n) (Some place) None → unwrap_or found n ≡ place
first_or_length place n found within is =
    ap (λ o. unwrap_or o n) is
    ∙ (elim (nat_lt place n) as (λ b. nat_lt place n ≡ b → unwrap_or (cond b (Some place) None) n ≡ place) [
      | true ↦ λ _. refl
      | false ↦ λ no. let past : n ≤ place = ltb-false place n no in omega arith
    ] refl)

-- what is before that byte in the first bytes of a tag
pub language_of_head : (tag : List ℕ) (n end : ℕ) (found : Option ℕ) → n ≡ min (length tag) 15
    → found ≡ cond (nat_lt (position_or_len ends_language (take n tag)) (length (take n tag)))
    (Some (position_or_len ends_language (take n tag))) None → end ≡ unwrap_or found (length (take n tag))
    → take end (take n tag) ≡ take 15 (language_of tag)
language_of_head tag n end found most first is =
    let short : n ≡ min 15 (length tag) = omega arith in
    let head : take n tag ≡ take 15 tag = ap (λ m. take m tag) short ∙ take_min 15 tag in
    ap (λ m. take m (take n tag)) (is ∙ first_or_length _ _ found (prefix_len-le-length (λ each. not (ends_language each)) (take n tag))
    first)
    ∙ ap (before_first ends_language) head ∙ before_first-take ends_language 15 tag

-- what holds where there is no place
at_none : (place : Option ℕ) (P : Type 0) → is_some place ≡ false → IfNone place P → P
at_none (Some p) P is holds = cc
at_none None P is holds = holds

-- the steps of the loop, in the words of the text with its underscores
module _ (text : List ℕ) (end : ℕ) (left : IsLeft (hyphened text) end) where
  pub found_if_some : (place : Option ℕ) → IfSome place (λ p. IsSameIgnoringCase (hyphened (take end text)) (name_of p))
      → IfSome place (λ p. p < LEN) → IfSome place (IsLongestMatch (hyphened text))
  found_if_some (Some p) same within = found (hyphened text) end left p within
      (subst (λ t. IsSameIgnoringCase t (name_of p)) (sym (take-map hyphen_for_underscore end text)) same)
  found_if_some None same within = tt

  module _ (place : Option ℕ) (is : is_some place ≡ false) (missing : IfNone place ((p : ℕ) → p < LEN
      → ¬ IsSameIgnoringCase (hyphened (take end text)) (name_of p))) where
    missing_here : (p : ℕ) → p < LEN → ¬ IsSameIgnoringCase (take end (hyphened text)) (name_of p)
    missing_here p within same =
        at_none place ((q : ℕ) → q < LEN → ¬ IsSameIgnoringCase (hyphened (take end text)) (name_of q)) is missing p within
        (subst (λ t. IsSameIgnoringCase t (name_of p)) (take-map hyphen_for_underscore end text) same)

    byte_at : (k : ℕ) → k < end → slice_index (hyphened text) k ≡ hyphen_for_underscore (slice_index (take end text) k)
    byte_at k less =
        let w : end ≤ length (hyphened text) = left.within in
        get_or-map hyphen_for_underscore text k 0 0 (omega (arith, length-map text hyphen_for_underscore))
        ∙ ap hyphen_for_underscore (sym (get_or-take end text k 0 less))

    length-here : length (take end text) ≡ end
    length-here = length-take-le end text (let w = left.within in omega (arith, length-map text hyphen_for_underscore))

    pub next_at : (hyphen : ℕ) → hyphen < length (take end text) → hyphen_for_underscore (slice_index (take end text) hyphen) ≡ 45 →
        ((k : ℕ) → hyphen + 1 ≤ k → k < length (take end text) → hyphen_for_underscore (slice_index (take end text) k) ≢ 45)
        → IsLeft (hyphened text) hyphen
    next_at hyphen inside at none =
        let before : hyphen < end = omega (arith, length-here) in
        next (hyphened text) end left missing_here hyphen before (byte_at hyphen before ∙ at)
        (λ k after less same. none k (omega arith) (omega (arith, length-here)) (sym (byte_at k less) ∙ same))

    pub none_at : ((k : ℕ) → k < length (take end text) → hyphen_for_underscore (slice_index (take end text) k) ≢ 45) → (p : ℕ) → p < LEN
        → ¬ Matches (hyphened text) (name_of p)
    none_at none =
        none_matches (hyphened text) end left missing_here (λ k less same. none k (omega (arith, length-here)) (sym (byte_at k less)
        ∙ same))

-- a language that neither comparison finds to be the same is not `C` or `POSIX`
pub neither_is_posix : (language : List ℕ) (c posix : Bool) → c ≡ false → posix ≡ false
    → (c ≡ true ↔ IsSameIgnoringCase language (codes "C")) → (posix ≡ true ↔ IsSameIgnoringCase language (codes "POSIX"))
    → ¬ IsPosix language
neither_is_posix language c posix no_c no_posix is_c is_posix (inl same) = let both : true ≡ false = sym (is_c.1 same) ∙ no_c in cc
neither_is_posix language c posix no_c no_posix is_c is_posix (inr same) = let both : true ≡ false = sym (is_posix.1 same) ∙ no_posix in cc
