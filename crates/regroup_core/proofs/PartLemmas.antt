-- The parts of a text by where the first one ends.
use Rattle.regroup_core.proofs.Common.{ℕ, ◌+◌, ◌-◌, ◌<◌, ◌≤◌, ◌≡◌, Bool, true, false, List, [], ◌∷◌, length, take, drop, get_or}
use Rattle.regroup_core.proofs.Common.{slice_range}
use Rattle.regroup_core.proofs.Common.{suc, Option, Some, None, refl, sym, ap, ◌∙◌, arith, cases_Bool, inl, inr, eqb-true, drop-drop}
use Rattle.regroup_core.proofs.Common.{length-drop}
use Rattle.regroup_core.proofs.Common.{take_all, get_or-drop, option_map, nat_lt, ltb-false, Decides-ltb, is_inside, is_end, after_byte}
use Rattle.regroup_core.proofs.Common.{end_at}
use Rattle.regroup_core.proofs.Common.{end_of, split_at, onto_first, Within, Start, ◌&&◌, ◌==◌, not, join_with_byte}
use Rattle.regroup_core.proofs.Common.{subst, take_rest, parts_of, quotes_of, delimiter_of, Separation}
use Rattle.regroup_core.proofs.RecordLemmas.{end-here, end-none}

-- the place of an end in a text with one byte more
pub later : (found : Option ℕ) (n : ℕ) → option_map (λ k. suc k) found ≡ Some n → (m : ℕ) × (found ≡ Some m) × (n ≡ suc m)
later None n is = absurd (cc)
later (Some m) n is = (m, refl, cc)

pub later-none : (found : Option ℕ) → option_map (λ k. suc k) found ≡ None → found ≡ None
later-none None is = refl
later-none (Some m) is = absurd (cc)

same_byte : (same inside : Bool) → (same && not inside) ≡ true → same ≡ true
same_byte same inside is = grind arith

module _ (q : Option ℕ) (e : ℕ) where
  -- a text with an end
  pub split-end : (w : Within) (text : List ℕ) (n : ℕ) → end_of q e w text ≡ Some n
      → (split_at q e w text ≡ take n text ∷ split_at q e Start (drop (n + 1) text)) × (get_or text n 0 ≡ e)
  split-end w [] n is = absurd (cc)
  split-end w (b ∷ text) n is =
      elim (cases_Bool (is_end e w b)) [
        | inl ends ↦
            let zero_is : n ≡ 0 = cc (rw ends at is) in
            rw zero_is (rw ends refl, eqb-true b e (same_byte (b == e) (is_inside w) ends))
        | inr plain ↦
            let next = later (end_of q e (after_byte q w b) text) n (rw plain at is) in
            let rest = split-end (after_byte q w b) text next.0 next.1 in
            let more : suc next.0 + 1 ≡ suc (next.0 + 1) = omega arith in
            rw next.2 (
              rw plain (ap (onto_first b) rest.0 ∙ ap (λ k. (b ∷ take next.0 text) ∷ split_at q e Start (drop k (b ∷ text))) (sym more)),
              rest.1,
            )
      ]

  pub split-none : (w : Within) (text : List ℕ) → end_of q e w text ≡ None → split_at q e w text ≡ text ∷ []
  split-none w [] is = refl
  split-none w (b ∷ text) is =
      elim (cases_Bool (is_end e w b)) [
        | inl ends ↦ absurd (cc (rw ends at is))
        | inr plain ↦ rw plain (ap (onto_first b) (split-none (after_byte q w b) text (later-none _ (rw plain at is))))
      ]

  -- there is a part
  first-some : (b : ℕ) (parts : List (List ℕ)) → 0 < length (onto_first b parts)
  first-some b [] = omega arith
  first-some b (part ∷ parts) = omega arith

  pub split-some : (w : Within) (text : List ℕ) → 0 < length (split_at q e w text)
  split-some w [] = omega arith
  split-some w (b ∷ text) =
      elim (cases_Bool (is_end e w b)) [
        | inl ends ↦ rw ends (omega arith)
        | inr plain ↦ rw plain (first-some b (split_at q e (after_byte q w b) text))
      ]

  -- the parts, joined again, are the text
  joined-onto : (b : ℕ) (parts : List (List ℕ)) → 0 < length parts → join_with_byte e (onto_first b parts) ≡ b ∷ join_with_byte e parts
  joined-onto b [] some = absurd (omega arith)
  joined-onto b (part ∷ []) some = refl
  joined-onto b (part ∷ next ∷ parts) some = refl

  joined-next : (parts : List (List ℕ)) → 0 < length parts → join_with_byte e ([] ∷ parts) ≡ e ∷ join_with_byte e parts
  joined-next [] some = absurd (omega arith)
  joined-next (part ∷ parts) some = refl

  pub split-joined : (w : Within) (text : List ℕ) → join_with_byte e (split_at q e w text) ≡ text
  split-joined w [] = refl
  split-joined w (b ∷ text) =
      elim (cases_Bool (is_end e w b)) [
        | inl ends ↦
            let same = eqb-true b e (same_byte (b == e) (is_inside w) ends) in
            rw ends (joined-next (split_at q e Start text) (split-some Start text) ∙ ap (λ l. e ∷ l) (split-joined Start text)
            ∙ ap (λ c. c ∷ text) (sym same))
        | inr plain ↦ rw plain (joined-onto b (split_at q e (after_byte q w b) text) (split-some (after_byte q w b) text)
            ∙ ap (λ l. b ∷ l) (split-joined (after_byte q w b) text))
      ]

  -- the part of a text that begins at a place, and those after it
  module _ (text : List ℕ) (start len : ℕ) (end_is : end_of q e Start (drop start text) ≡ end_at len (drop start text)) where
    part_len : start + len - start ≡ len
    part_len = omega arith

    pub parts-last : start + len ≡ length text → split_at q e Start (drop start text) ≡ slice_range text start (start + len) ∷ []
    parts-last last =
        let all : length (drop start text) ≤ len = omega (arith, last, length-drop start text) in
        split-none Start (drop start text) (end_is ∙ end-none len (drop start text) all)
        ∙ ap (λ l. l ∷ []) (sym (ap (λ k. take k (drop start text)) part_len ∙ take_all len (drop start text) all))

    pub parts-next : start + len < length text →
        (split_at q e Start (drop start text) ≡ slice_range text start (start + len) ∷ split_at q e Start (drop (start + len + 1) text))
        × (get_or text (start + len) 0 ≡ e)
    parts-next low =
        let found = split-end Start (drop start text) len
        (end_is ∙ end-here len (drop start text) (omega (arith, low, length-drop start text))) in
        let sum : start + (len + 1) ≡ start + len + 1 = omega arith in (
          found.0 ∙ ap (λ k. take k (drop start text) ∷ split_at q e Start (drop (len + 1) (drop start text))) (sym part_len)
              ∙ ap (λ l. slice_range text start (start + len) ∷ split_at q e Start l)
              (drop-drop (len + 1) start text ∙ ap (λ k. drop k text) sum),
          sym (get_or-drop start text len 0) ∙ found.1,
        )

    -- the part, and those after it
    pub parts-split : start ≤ length text → len ≤ length (drop start text) →
        (rest : List (List ℕ)) × (split_at q e Start (drop start text) ≡ slice_range text start (start + len) ∷ rest)
        × (start + len ≤ length text) × (start + len ≡ length text → rest ≡ [])
        × (start + len < length text
        → (rest ≡ split_at q e Start (drop (start + len + 1) text)) × (get_or text (start + len) 0 ≡ e))
    parts-split low within = by (nat_lt (start + len) (length text)) refl
      where
        inside : start + len ≤ length text
        inside = omega (arith, low, within, length-drop start text)

        by : (is : Bool) → nat_lt (start + len) (length text) ≡ is →
            (rest : List (List ℕ)) × (split_at q e Start (drop start text) ≡ slice_range text start (start + len) ∷ rest)
            × (start + len ≤ length text) × (start + len ≡ length text → rest ≡ [])
            × (start + len < length text
            → (rest ≡ split_at q e Start (drop (start + len + 1) text)) × (get_or text (start + len) 0 ≡ e))
        by true is =
            let below = (Decides-ltb (start + len) (length text)).0 is in
            let found = parts-next below in (
              split_at q e Start (drop (start + len + 1) text),
              found.0,
              inside,
              (λ last. absurd (omega (arith, below, last))),
              (λ next. (refl, found.1)),
            )
        by false is =
            let over = ltb-false (start + len) (length text) is in (
              [],
              parts-last (omega (arith, over, inside)),
              inside,
              (λ last. refl),
              (λ next. absurd (omega (arith, over, next))),
            )

-- the part that begins at `start` ends at `end`, and these are after it
pub record Step (separation : Separation) (fields : List ℕ) (start end : ℕ) : Type 0 where
  pub rest : List (List ℕ)
  pub split : parts_of separation (drop start fields) ≡ slice_range fields start end ∷ rest
  pub ordered : start ≤ end
  pub within : end ≤ length fields
  pub last : end ≡ length fields → rest ≡ []
  pub next : end < length fields → (rest ≡ parts_of separation (drop (end + 1) fields)) × (get_or fields end 0 ≡ delimiter_of separation)

pub step : (separation : Separation) (fields : List ℕ) (start len : ℕ) → start ≤ length fields
    → len ≤ length (slice_range fields start (length fields)) →
    end_of (quotes_of separation) (delimiter_of separation) Start (slice_range fields start (length fields))
    ≡ end_at len (slice_range fields start (length fields)) → Step separation fields start (start + len)
step separation fields start len low within end_is =
    let left = take_rest fields start in
    let found = parts-split (quotes_of separation) (delimiter_of separation) fields start len
    (subst (λ l. end_of (quotes_of separation) (delimiter_of separation) Start l ≡ end_at len l) left end_is) low
    (subst (λ l. len ≤ length l) left within) in
    record { rest = found.0; split = found.1; ordered = omega arith; within = found.2; last = found.3; next = found.4 }
