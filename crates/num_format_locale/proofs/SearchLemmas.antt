-- Lemmas on the search among names, and on what the compared names show.
use Rattle.std.proofs.Common.{◌≡◌, ℕ, zero, suc, ◌+◌, ◌-◌, ◌*◌, ◌/◌, ◌^◌, ◌<◌, ◌≤◌, inl, inr, List, [], ◌∷◌, ◌++◌, length, length-append}
use Rattle.std.proofs.Common.{append_assoc, append-nil, arith, refl, sym, ap, subst, ◌∙◌, Contains, Option, Some, None, Ok, Err}
use Rattle.std.specs.Prelude.{IfNone, IfSome}
use Rattle.std.specs.Ordering.{nat_cmp, ordering_reverse}
use Rattle.std.specs.declared.cmp.Ordering.TheVariants.{Less, Equal, Greater}
use Rattle.std.specs.Cmp.Lexicographic.{slice_cmp}
use Rattle.std.specs.FinMap.{slice_cmp-IsAntisymmetric, nat_cmp-IsAntisymmetric}
use Rattle.std.proofs.Math.Nat.{pow-suc}
use Rattle.std.proofs.lemmas.Bool.{cases_lt}
use Rattle.std.proofs.lemmas.Cmp.{nat_list_cmp_total, ranked}
use Rattle.std.proofs.lemmas.List.Elements.{Contains-push, Contains-append_left}
use Rattle.num_format_cldr.specs.declared.TheConstants.{LEN}
use Rattle.num_format_text.specs.declared.error.Error.{Error}
use Rattle.num_format_text.specs.Cut.{cut_text}
use Rattle.num_format_text.specs.Refusal.{ParseLocale, refusal_of}
use Rattle.num_format_locale.specs.Names.{LooksUp, Spells, name_of}
use Rattle.num_format_locale.specs.Search.{Finds, Halves, IsBetween, IsLast, IsMixed, RulesOut, hyphened}
use Rattle.num_format_locale.proofs.NameLemmas.{no_underscore, order, spelled_name, unique}
use Rattle.num_format_locale.proofs.SpellingLemmas.{spells, unmixed}

-- the text is above the names before `low` and below those from `high` on, as the places show, and
-- the places that may still follow are enough for what is left
pub record IsHalved (text places : List ℕ) (low high : ℕ) : Type 0 where
  pub ordered : low ≤ high
  pub within : high ≤ LEN
  pub short : length places ≤ 10
  pub few : high - low < 2 ^ (10 - length places)
  pub listed_below : 0 < low → Contains places (low - 1)
  pub listed_above : high < LEN → Contains places high
  pub above : 0 < low → slice_cmp nat_cmp (name_of (low - 1)) (hyphened text) ≡ Less
  pub below : high < LEN → slice_cmp nat_cmp (hyphened text) (name_of high) ≡ Less
  -- with those that halving compares from here on, they are those that it compares from the start on
  pub halved : (more : List ℕ) → Halves text more low high → Halves text (places ++ more) 0 LEN

-- half of a number below a power of two is below the power before it
halves : (m width : ℕ) → width < 2 ^ m → 0 < width → (p : ℕ) × ((m ≡ suc p) × (width / 2 < 2 ^ p))
halves zero width few some = absurd (omega arith)
halves (suc p) width few some =
    let few' : width < 2 ^ p * 2 = rw pow-suc at few in
    (p, (refl, omega arith))

-- while names are left, the list has space for one more place
pub fits : (n width : ℕ) → width < 2 ^ (10 - n) → 0 < width → n < 10
fits n width few some = let m = (halves (10 - n) width few some).1.0 in omega arith

-- after a comparison at most half of the names are left
half_left : (n width left : ℕ) → width < 2 ^ (10 - n) → 0 < width → left ≤ width / 2 → left < 2 ^ (10 - (n + 1))
half_left n width left few some less =
    let half = halves (10 - n) width few some in
    let same : 10 - (n + 1) ≡ half.0 = let m = half.1.0 in omega arith in
    let bound : width / 2 < 2 ^ half.0 = half.1.1 in
    rw same (omega arith)

module _ (text places : List ℕ) (low high middle : ℕ) where
  -- after a comparison where the text is less than the name in the middle
  pub falls : IsHalved text places low high → low < high → middle ≡ low + (high - low) / 2
      → slice_cmp nat_cmp (hyphened text) (name_of middle) ≡ Less → IsHalved text (places ++ middle ∷ []) low middle
  falls so more mid less = record {
    ordered = omega arith;
    within = let b = so.within in omega arith;
    short = let r = fits (length places) (high - low) so.few (omega arith) in omega (arith, length-append {A = ℕ});
    few = rw (length-append {A = ℕ}) (half_left (length places) (high - low) (middle - low) so.few (omega arith) (omega arith));
    listed_below = λ h. Contains-append_left places (middle ∷ []) (low - 1) (so.listed_below h);
    listed_above = λ h. Contains-push places middle;
    above = so.above;
    below = λ h. less;
    halved = λ rest left. rw append_assoc (so.halved (middle ∷ rest) (
      more,
      mid,
      (λ _. left),
      (λ equal. absurd (cc less)),
      (λ greater. absurd (cc less)),
    ));
  }

  -- after a comparison where it is greater
  pub rises : IsHalved text places low high → low < high → middle ≡ low + (high - low) / 2
      → slice_cmp nat_cmp (hyphened text) (name_of middle) ≡ Greater → IsHalved text (places ++ middle ∷ []) (middle + 1) high
  rises so more mid greater = record {
    ordered = omega arith;
    within = so.within;
    short = let r = fits (length places) (high - low) so.few (omega arith) in omega (arith, length-append {A = ℕ});
    few = rw (length-append {A = ℕ}) (half_left (length places) (high - low) (high - (middle + 1)) so.few (omega arith) (omega arith));
    listed_below = λ h. let e : middle + 1 - 1 ≡ middle = omega arith in rw e (Contains-push places middle);
    listed_above = λ h. Contains-append_left places (middle ∷ []) high (so.listed_above h);
    above = λ h. let e : middle + 1 - 1 ≡ middle = omega arith in rw e (nat_list_cmp_total.antisymm (name_of middle) (hyphened text)
        ∙ ap ordering_reverse greater);
    below = so.below;
    halved = λ rest left. rw append_assoc (so.halved (middle ∷ rest) (
      more,
      mid,
      (λ less. absurd (cc greater)),
      (λ equal. absurd (cc greater)),
      (λ _. left),
    ));
  }

  -- where it is equal, no place follows
  pub ends : IsHalved text places low high → low < high → middle ≡ low + (high - low) / 2
      → slice_cmp nat_cmp (hyphened text) (name_of middle) ≡ Equal → Halves text (places ++ middle ∷ []) 0 LEN
  ends so more mid equal = so.halved (middle ∷ []) (more, mid, (λ less. absurd (cc equal)), (λ _. refl), (λ greater. absurd (cc equal)))

-- where no place is left, none follows
pub ends_without : (text places : List ℕ) (low high : ℕ) → IsHalved text places low high → high ≤ low → Halves text places 0 LEN
ends_without text places low high so done =
    let none : low ≡ high = (let o = so.ordered in omega arith) in
    subst (λ ps. Halves text ps 0 LEN) (append-nil places) (so.halved [] none)

-- texts that compare as equal are the same
pub same_text : (x y : List ℕ) → slice_cmp nat_cmp x y ≡ Equal → x ≡ y
same_text x y equal = slice_cmp-IsAntisymmetric nat_cmp-IsAntisymmetric x y equal

-- a text that is found and not mixed spells the name
pub finds : (text places : List ℕ) (place : Option ℕ) → ¬ IsMixed text → IfSome place (λ p. (hyphened text ≡ name_of p) × IsLast places p)
    → IfSome place (λ p. Finds text places p)
finds text places (Some p) pure at = (spells text (name_of p) pure at.0, at.1)
finds text places None pure at = tt

-- the same without a list of places
pub spells_if_found : (text : List ℕ) (place : Option ℕ) → ¬ IsMixed text → IfSome place (λ p. hyphened text ≡ name_of p)
    → IfSome place (λ p. Spells text (name_of p))
spells_if_found text (Some p) pure at = spells text (name_of p) pure at
spells_if_found text None pure at = tt

-- no name is the text between two neighbors
outside : (text places : List ℕ) (k p : ℕ) → IsBetween text places k → p < LEN → hyphened text ≡ name_of p → ⊥
outside text places k p so within same =
    elim (cases_lt p k) [
      | inl less ↦
          let above : slice_cmp nat_cmp (name_of (k - 1)) (name_of p) ≡ Less =
          subst (λ t. slice_cmp nat_cmp (name_of (k - 1)) t ≡ Less) same (so.above (omega arith)) in
          let lower : k - 1 < p = ranked (k - 1) p Less (sym above ∙ order (k - 1) p (let w = so.within in omega arith) within)
          in omega arith
      | inr more ↦
          let below : slice_cmp nat_cmp (name_of p) (name_of k) ≡ Less = subst (λ t. slice_cmp nat_cmp t (name_of k) ≡ Less) same
          (so.below (omega arith)) in
          let lower : p < k = ranked p k Less (sym below ∙ order p k within (omega arith)) in omega arith
    ]

-- a mixed text spells no name
pub mixed_spells_none : (text : List ℕ) → IsMixed text → (place : ℕ) → place < LEN → ¬ Spells text (name_of place)
mixed_spells_none text mixed place within spelled = unmixed text (name_of place) (no_underscore place within) spelled mixed

-- nor does a text that is no name with hyphens for underscores
pub other_spells_none : (text : List ℕ) → ((place : ℕ) → place < LEN → ¬ (hyphened text ≡ name_of place)) → (place : ℕ) → place < LEN
    → ¬ Spells text (name_of place)
other_spells_none text other place within spelled = other place within
    (spelled_name text (name_of place) (no_underscore place within) spelled)

pub none_if_missing : (text : List ℕ) (place : Option ℕ) → IfNone place ((k : ℕ) → k < LEN → ¬ (hyphened text ≡ name_of k))
    → IfNone place ((k : ℕ) → k < LEN → ¬ Spells text (name_of k))
none_if_missing text (Some p) missing = tt
none_if_missing text None missing = other_spells_none text missing

-- nor does a text that is ruled out
pub unspelled : (text places : List ℕ) → RulesOut text places → (place : ℕ) → place < LEN → ¬ Spells text (name_of place)
unspelled text places (inl mixed) = mixed_spells_none text mixed
unspelled text places (inr at) = other_spells_none text (λ place. outside text places at.0 place at.1)

-- a place whose name the text spells is the result
pub looked_up : (text : List ℕ) (place : ℕ) → place < LEN → Spells text (name_of place) → LooksUp text (Ok place)
looked_up text place within spelled = record {
  found = λ other also other_spelled. ap Ok (unique text place other within also spelled other_spelled);
  within = within;
  spelled = spelled;
  unspelled = tt;
  refused = tt;
}

-- where it spells none, the error that keeps it is
pub refused : (text : List ℕ) (error : Error) → ((place : ℕ) → place < LEN → ¬ Spells text (name_of place))
    → refusal_of error ≡ ParseLocale (cut_text text) → LooksUp text (Err error)
refused text error none keeps = record {
  found = λ place within spelled. absurd (none place within spelled);
  within = tt;
  spelled = tt;
  unspelled = none;
  refused = keeps;
}

-- the places that may still be that of the text's name, and the one whose name is compared next
pub record IsNarrowed (text : List ℕ) (low middle high : ℕ) : Type 0 where
  pub ordered : low ≤ middle
  pub inside : low < high → middle < high
  pub within : high ≤ LEN
  pub kept : (place : ℕ) → place < LEN → hyphened text ≡ name_of place → (low ≤ place) × (place < high)

module _ (text : List ℕ) (low middle high next : ℕ) (so : IsNarrowed text low middle high) (more : low < high) where
  -- after a comparison where the text is less than the name
  pub lower : slice_cmp nat_cmp (hyphened text) (name_of middle) ≡ Less → next ≡ low + (middle - low) / 2 → IsNarrowed text low next middle
  lower less half = record {
    ordered = omega arith;
    inside = λ left. omega arith;
    within = let b = so.within in let m = so.inside more in omega arith;
    kept = λ place bound same.
        let less_name : slice_cmp nat_cmp (name_of place) (name_of middle) ≡ Less =
        subst (λ t. slice_cmp nat_cmp t (name_of middle) ≡ Less) same less in
        let m : middle < LEN = (let b = so.within in let i = so.inside more in omega arith) in
        ((so.kept place bound same).0, ranked place middle Less (sym less_name ∙ order place middle bound m));
  }

  -- after one where it is greater
  pub upper : slice_cmp nat_cmp (hyphened text) (name_of middle) ≡ Greater → next ≡ middle + 1 + (high - (middle + 1)) / 2
      → IsNarrowed text (middle + 1) next high
  upper greater half = record {
    ordered = omega arith;
    inside = λ left. omega arith;
    within = so.within;
    kept = λ place bound same.
        let greater_name : slice_cmp nat_cmp (name_of place) (name_of middle) ≡ Greater =
        subst (λ t. slice_cmp nat_cmp t (name_of middle) ≡ Greater) same greater in
        let less_name : slice_cmp nat_cmp (name_of middle) (name_of place) ≡ Less =
        nat_list_cmp_total.antisymm (name_of middle) (name_of place) ∙ ap ordering_reverse greater_name in
        let m : middle < LEN = (let b = so.within in let i = so.inside more in omega arith) in
        let above : middle < place = ranked middle place Less (sym less_name ∙ order middle place m bound) in
        (omega arith, (so.kept place bound same).1);
  }
