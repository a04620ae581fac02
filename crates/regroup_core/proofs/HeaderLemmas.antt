-- The field of a header that has a name, part after part.
use Rattle.regroup_core.proofs.Common.{ℕ, ◌+◌, ◌<◌, ◌≤◌, ◌≡◌, Bool, true, false, List, [], ◌∷◌, length, drop, slice_range, Result, Ok, Err}
use Rattle.regroup_core.proofs.Common.{refl, sym, ap, ◌∙◌, arith, if◌then◌else◌, number_of, parts_of, Separation}
use Rattle.regroup_core.specs.Header.{also, is_named, numbers_named, only_one}
use Rattle.regroup_core.specs.declared.header.NameError.{NameError}
use Rattle.regroup_core.specs.declared.header.NameError.TheVariants.{Doubled, Unknown}
use Rattle.regroup_core.proofs.PartLemmas.{Step}

-- the one number, by what was found before these
abbrev pub with_found : Result ℕ NameError → List ℕ → Result ℕ NameError
with_found (Err Unknown) numbers = only_one numbers
with_found (Err Doubled) numbers = Err Doubled
with_found (Ok number) numbers = only_one (number ∷ numbers)

found-end : (found : Result ℕ NameError) → with_found found [] ≡ found
found-end (Err Unknown) = refl
found-end (Err Doubled) = refl
found-end (Ok number) = refl

found-next : (found : Result ℕ NameError) (is : Bool) (n : ℕ) (later : List ℕ)
    → with_found found (if is then n ∷ later else later) ≡ with_found (also found is n) later
found-next found false n later = refl
found-next (Err Unknown) true n later = refl
found-next (Err Doubled) true n later = refl
found-next (Ok number) true n later = refl

module _ (separation : Separation) (name fields : List ℕ) where
  abbrev parts : List ℕ → List (List ℕ)
  parts text = parts_of separation text

  abbrev whole : Result ℕ NameError
  whole = only_one (numbers_named separation name 0 (parts fields))

  -- this was found in the parts before `start`
  pub record Sought (found : Result ℕ NameError) (start count : ℕ) : Type 0 where
    pub is : whole ≡ with_found found (numbers_named separation name count (parts (drop start fields)))
    pub within : start ≤ length fields
    pub counted : count ≤ start

  module _ {found : Result ℕ NameError} {start count : ℕ} (sought : Sought found start count) {end : ℕ}
      (next : Step separation fields start end) (n : ℕ) (number : n ≡ number_of separation count (slice_range fields start end))
      (now : Result ℕ NameError)
      (now_is : now ≡ also found (is_named separation name (slice_range fields start end)) n) where
    here : whole ≡ with_found now (numbers_named separation name n next.rest)
    here =
        let part = slice_range fields start end in
        sought.is ∙ ap (λ l. with_found found (numbers_named separation name count l)) next.split
        ∙ found-next found (is_named separation name part) (number_of separation count part)
        (numbers_named separation name (number_of separation count part) next.rest)
        ∙ ap (λ k. with_found (also found (is_named separation name part) k) (numbers_named separation name k next.rest)) (sym number)
        ∙ ap (λ f. with_found f (numbers_named separation name n next.rest)) (sym now_is)

    pub sought-last : end ≡ length fields → now ≡ whole
    sought-last last = sym (here ∙ ap (λ l. with_found now (numbers_named separation name n l)) (next.last last) ∙ found-end now)

    pub sought-next : end < length fields → n ≤ end + 1 → Sought now (end + 1) n
    sought-next low counted = record {
      is = here ∙ ap (λ l. with_found now (numbers_named separation name n l)) (next.next low).0;
      within = omega (arith, low);
      counted = counted;
    }
