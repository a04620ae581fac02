-- Lemmas on the names of variants and their places.
use Rattle.std.proofs.Common.{◌≡◌, ℕ, ◌<◌, List, [], length, map, slice_index_or, arith, refl, sym, ap, ◌∙◌, MatchResult, Result, Ok, Err}
use Rattle.std.proofs.Common.{inl, inr, ◌+◌, true}
use Rattle.std.specs.Borrow.{Bor}
use Rattle.std.specs.Cmp.Lexicographic.{slice_cmp}
use Rattle.std.specs.List.Sorted.{IsBinarySearchResult, IsNonDecreasingBy, IsSearchInRange}
use Rattle.std.specs.declared.cmp.Ordering.TheVariants.{Less, Equal}
use Rattle.std.specs.Ordering.{is_lt, nat_cmp, ordering_index, ordering_reverse}
use Rattle.std.proofs.lemmas.Bool.{cases_lt}
use Rattle.std.proofs.lemmas.Cmp.{nat_list_cmp_total, tied_itself}
use Rattle.std.proofs.lemmas.List.{get_or-map, length-map}
use Rattle.std.proofs.lemmas.List.Sorted.{searchable_from_sorted}
use lib.Utf8.{encode}
use Rattle.num_format_cldr.specs.declared.TheConstants.{LEN}
use Rattle.num_format_cldr.specs.Entry.{Rises}
use Rattle.num_format_cldr.specs.Families.{families}
use Rattle.num_format_cldr.specs.Table.{members, table_names}
use Rattle.num_format_cldr.proofs.Rising.{rises, Rises-from_test}
use Rattle.num_format_locale.specs.Laws.{VariantLaw}
use Rattle.num_format_locale.specs.Names.{variant_name, variant_name_of}
use Rattle.num_format_locale.proofs.NameLemmas.{length-table_names, same_place}
use Rattle.num_format_locale.proofs.SearchLemmas.{same_text}

-- the names of all variants, in the order of their places
abbrev pub variant_names : List (List ℕ)
variant_names = map variant_name table_names

-- there are as many as places
pub length-variant_names : length variant_names ≡ LEN
length-variant_names = length-map table_names variant_name ∙ length-table_names

-- the name at a place is that of the variant there
pub variant_name_at : (place : ℕ) → place < LEN → slice_index_or variant_names place [] ≡ variant_name_of place
variant_name_at place within = get_or-map variant_name table_names place [] [] (omega (arith, length-table_names))

-- they rise too, which is computed
names_pass : rises variant_names ≡ true
unfolding encode families members table_names
names_pass = refl

pub variant_names_rise : Rises variant_names
variant_names_rise = Rises-from_test variant_names names_pass

-- two locales have different variants
pub variants_differ : VariantLaw
variants_differ p q within_p within_q same =
    same_place variant_names variant_names_rise p q (omega (arith, length-variant_names)) (omega (arith, length-variant_names))
    (variant_name_at p within_p ∙ same ∙ sym (variant_name_at q within_q))

-- the names of all variants, behind references
module _ (names : List (Bor (List ℕ))) (listed : map (λ name. name.now) names ≡ variant_names) where
  -- there are as many as places
  pub length-names : length names ≡ LEN
  length-names = sym (length-map names (λ name. name.now)) ∙ ap length listed ∙ length-variant_names

  -- the one at a place is the name of the variant there
  pub name_at : (place : ℕ) (d : Bor (List ℕ)) → place < LEN → (slice_index_or names place d).now ≡ variant_name_of place
  name_at place d within =
      sym (get_or-map (λ name. name.now) names place d [] (omega (arith, length-names)))
      ∙ ap (λ all. slice_index_or all place []) listed ∙ variant_name_at place within

  -- a name compares as less than the next
  rising : (k : ℕ) → k + 1 < LEN → slice_cmp nat_cmp (variant_name_of k) (variant_name_of (k + 1)) ≡ Less
  rising k within =
      ap (λ a. slice_cmp nat_cmp a (variant_name_of (k + 1))) (sym (variant_name_at k (omega arith)))
      ∙ ap (slice_cmp nat_cmp (slice_index_or variant_names k [])) (sym (variant_name_at (k + 1) within))
      ∙ variant_names_rise k (k + 1) (omega arith) (omega (arith, length-variant_names))

  -- so a binary search may be made
  sorted : (text : List ℕ) → IsNonDecreasingBy (λ name. ordering_index (slice_cmp nat_cmp name.now text)) names
  sorted text = searchable_from_sorted nat_list_cmp_total (λ name. name.now) names text (λ k d low within.
      let next : k + 1 < LEN = omega (arith, length-names) in
      ap is_lt (ap (λ a. slice_cmp nat_cmp a (slice_index_or names k d).now) (name_at (k + 1) d next)
      ∙ ap (slice_cmp nat_cmp (variant_name_of (k + 1))) (name_at k d (omega arith))
      ∙ nat_list_cmp_total.antisymm (variant_name_of (k + 1)) (variant_name_of k) ∙ ap ordering_reverse (rising k next)))

  -- what it returns: the place of the variant with this name, or that there is none
  pub searched : (text : List ℕ) (d : Bor (List ℕ)) (r : Result ℕ ℕ) → IsSearchInRange r (length names) →
      IsBinarySearchResult (λ name. slice_cmp nat_cmp name.now text) names r →
      MatchResult r
      (λ place. (place < LEN) × (text ≡ variant_name_of place))
      (λ _. (place : ℕ) → place < LEN → ¬ (text ≡ variant_name_of place))
  searched text d (Ok place) within at =
      let here : place < LEN = omega (arith, length-names) in
      (here, sym (same_text _ _ (at d)) ∙ name_at place d here)
  searched text d (Err i) within at = λ place here same.
      let equal : slice_cmp nat_cmp (slice_index_or names place d).now text ≡ Equal =
      ap (λ t. slice_cmp nat_cmp t text) (name_at place d here ∙ sym same) ∙ tied_itself nat_list_cmp_total text in
      elim (cases_lt place i) [
        | inl before ↦ let less = (at (sorted text)).0 place d (omega arith) before in cc
        | inr after ↦ let greater = (at (sorted text)).1 place d after (omega (arith, length-names)) in cc
      ]
