-- What becomes of the parts of a record, one after the other.
use Rattle.regroup_core.proofs.Common.{ℕ, ◌+◌, ◌-◌, ◌<◌, ◌≤◌, ◌≡◌, Bool, true, false, ◌&&◌, ◌||◌, if◌then◌else◌, List, [], ◌∷◌, ◌++◌}
use Rattle.regroup_core.proofs.Common.{length, take, drop}
use Rattle.regroup_core.proofs.Common.{get_or, slice_range, Option, Some, None, Result, Ok, Err, refl, sym, ap, ◌∙◌, arith, append-nil}
use Rattle.regroup_core.proofs.Common.{append_assoc, drop-append-le, drop-drop, drop_more, length-take-le, take-add, take_rest}
use Rattle.regroup_core.proofs.Common.{take-append-drop, leb-false}
use Rattle.regroup_core.proofs.Common.{lt-leb, le-leb, fold, join_with_byte, max, nat_le, unwrap_or, result_map_both, delimiter_of}
use Rattle.regroup_core.proofs.Common.{is_field}
use Rattle.regroup_core.proofs.Common.{number_of, parts_of, quotes_of, Start, fields_len, IsOkAnd}
use Rattle.regroup_core.proofs.PartLemmas.{Step, split-joined, split-some}
use Rattle.regroup_core.specs.Lines.{after, enough, field_converted, is_at_most, is_chosen, is_chosen_from, line_of, part_converted}
use Rattle.regroup_core.specs.Lines.{parts_converted, wanted, with_first}
use Rattle.regroup_core.specs.declared.line.Cause.{Cause}
use Rattle.regroup_core.specs.declared.line.Cause.TheVariants.{Few}
use Rattle.regroup_core.specs.declared.plan.FieldRange.{FieldRange}
use Rattle.regroup_core.specs.declared.plan.Plan.{Plan}

-- where no range reaches a field, neither it nor one after it is chosen, and a record has enough of them
chosen-none : (list : List FieldRange) (n : ℕ) → is_chosen_from list n ≡ false → is_chosen list n ≡ false
chosen-none [] n past = refl
chosen-none (range ∷ list) n past = grind (arith, chosen-none list n)

chosen_from-later : (list : List FieldRange) (n : ℕ) → is_chosen_from list n ≡ false → is_chosen_from list (n + 1) ≡ false
chosen_from-later [] n past = refl
chosen_from-later (range ∷ list) n past = grind (arith, leb-false, lt-leb, chosen_from-later list n)

wanted-low : (list : List FieldRange) (count most : ℕ) → most ≤ count → is_chosen_from list (count + 1) ≡ false
    → fold (λ m range. max m (unwrap_or range.last range.first)) most list ≤ count
wanted-low [] count most low past = low
wanted-low (range ∷ list) count most low past =
    let parts = by range.last (is_chosen_from list (count + 1)) past in
    wanted-low list count (max most (unwrap_or range.last range.first)) (omega (arith, low, parts.0)) parts.1
  where
    by : (last : Option ℕ) (others : Bool) → (is_at_most (count + 1) last || others) ≡ false
        → (unwrap_or last range.first ≤ count) × (others ≡ false)
    by None others is = absurd (cc)
    by (Some l) others is = grind (arith, leb-false)

-- what is true of a part that is a field, and of another one
number-by : (P : ℕ → Bool → Type 0) (is : Bool) (before : ℕ) → P (before + 1) true → P before false
    → P (if is then before + 1 else before) is
number-by P true before field other = field
number-by P false before field other = other

-- what is after a part
abbrev pub tail_of : ℕ → List (List ℕ) → List ℕ
tail_of d [] = []
tail_of d (part ∷ parts) = d ∷ join_with_byte d (part ∷ parts)

joined-tail : (d : ℕ) (text : List ℕ) (parts : List (List ℕ)) → join_with_byte d (text ∷ parts) ≡ text ++ tail_of d parts
joined-tail d text parts = grind (arith, append-nil)

slice-more : (text : List ℕ) (a b c : ℕ) → a ≤ b → b ≤ c → slice_range text a c ≡ slice_range text a b ++ slice_range text b c
slice-more text a b c low high =
    let sum : c - a ≡ b - a + (c - b) = omega arith in
    let there : a + (b - a) ≡ b = omega arith in
    ap (λ n. take n (drop a text)) sum ∙ take-add (b - a) (c - b) (drop a text)
    ∙ ap (λ l. slice_range text a b ++ take (c - b) l) (drop-drop (b - a) a text ∙ ap (λ n. drop n text) there)

none_between : (text : List ℕ) (n : ℕ) → slice_range text n n ≡ []
none_between text n = let none : n - n ≡ 0 = omega arith in ap (λ k. take k (drop n text)) none

module _ {E : Type 0} where
  after-after : (p q : List ℕ) (text : Result (List ℕ) (Cause E)) → after p (after q text) ≡ after (p ++ q) text
  after-after p q (Ok t) = ap Ok (sym (append_assoc p q t))
  after-after p q (Err cause) = refl

  after-nil : (text : Result (List ℕ) (Cause E)) → after [] text ≡ text
  after-nil (Ok t) = refl
  after-nil (Err cause) = refl

  after-cause : (p : List ℕ) (text : Result (List ℕ) (Cause E)) (cause : Cause E) → after p text ≡ Err cause → text ≡ Err cause
  after-cause p (Ok t) cause is = absurd (cc)
  after-cause p (Err c) cause is = is

  -- a text and what is after it, or the first cause
  abbrev followed : Result (List ℕ) (Cause E) → Result (List ℕ) (Cause E) → Result (List ℕ) (Cause E)
  followed (Err cause) rest = Err cause
  followed (Ok text) rest = after text rest

  abbrev joined : ℕ → Result (List (List ℕ)) (Cause E) → Result (List ℕ) (Cause E)
  joined d texts = result_map_both (join_with_byte d) (λ cause. cause) texts

  abbrev tailed : ℕ → Result (List (List ℕ)) (Cause E) → Result (List ℕ) (Cause E)
  tailed d texts = result_map_both (tail_of d) (λ cause. cause) texts

  joined-first : (d : ℕ) (first : Result (List ℕ) (Cause E)) (rest : Result (List (List ℕ)) (Cause E))
      → joined d (with_first first rest) ≡ followed first (tailed d rest)
  joined-first d (Err cause) rest = refl
  joined-first d (Ok text) (Err cause) = refl
  joined-first d (Ok text) (Ok texts) = ap Ok (joined-tail d text texts)

  tailed-first : (d : ℕ) (first : Result (List ℕ) (Cause E)) (rest : Result (List (List ℕ)) (Cause E))
      → tailed d (with_first first rest) ≡ after (d ∷ []) (joined d (with_first first rest))
  tailed-first d (Err cause) rest = refl
  tailed-first d (Ok text) (Err cause) = refl
  tailed-first d (Ok text) (Ok texts) = refl

module _ {E : Type 0} (plan : Plan) (converted : List ℕ → Result (List ℕ) E) where
  abbrev d : ℕ
  d = delimiter_of plan.dialect.separation

  abbrev q : Option ℕ
  q = quotes_of plan.dialect.separation

  abbrev list : List FieldRange
  list = plan.list.now

  abbrev next_number : ℕ → List ℕ → ℕ
  next_number count part = number_of plan.dialect.separation count part

  abbrev all : ℕ → List (List ℕ) → Result (List (List ℕ)) (Cause E)
  all count parts = parts_converted plan converted count parts

  abbrev parts : List ℕ → List (List ℕ)
  parts text = parts_of plan.dialect.separation text

  -- parts of which none is chosen
  part-plain : (n : ℕ) (part : List ℕ) → (is_field plan.dialect.separation part && is_chosen list n) ≡ false
      → part_converted plan converted n part ≡ Ok part
  part-plain n part plain = rw plain refl

  all-plain : (count : ℕ) (texts : List (List ℕ)) → is_chosen_from list (count + 1) ≡ false → all count texts ≡ Ok texts
  all-plain count [] past = rw (le-leb (wanted list) count (wanted-low list count 0 (omega arith) past)) refl
  all-plain count (part ∷ texts) past =
      let is = is_field plan.dialect.separation part in
      let plain = number-by (λ n field. (field && is_chosen list n) ≡ false) is count (chosen-none list (count + 1) past) refl in
      let later = number-by (λ n field. is_chosen_from list (n + 1) ≡ false) is count (chosen_from-later list (count + 1) past) past in
      rw (part-plain (next_number count part) part plain, all-plain (next_number count part) texts later) refl

  abbrev few : ℕ → Result (List ℕ) (Cause E)
  few count = Err (Few count (wanted list))

  tail-none : (count : ℕ) (bytes : List ℕ) → after bytes (tailed d (all count [])) ≡ enough plan count bytes
  tail-none count bytes = by (nat_le (wanted list) count)
    where
      by : (is : Bool) → after bytes (tailed d (if is then Ok [] else Err (Few count (wanted list))))
          ≡ (if is then Ok bytes else few count)
      by true = ap Ok (append-nil bytes)
      by false = refl

  tail-some : (count : ℕ) (texts : List (List ℕ)) → 0 < length texts
      → tailed d (all count texts) ≡ after (d ∷ []) (joined d (all count texts))
  tail-some count [] some = absurd (omega arith)
  tail-some count (part ∷ texts) some =
      tailed-first d (part_converted plan converted (next_number count part) part) (all (next_number count part) texts)

  module _ (fields : List ℕ) where
    abbrev whole : Result (List ℕ) (Cause E)
    whole = joined d (all 0 (parts fields))

    -- these texts are appended, and the whole is they, the bytes from `kept` on that are copied, and what becomes of the parts from `start`
    -- on
    pub record Begun (old : List ℕ) (kept start count : ℕ) (now : List ℕ) : Type 0 where
      pub front : List ℕ
      pub added : now ≡ old ++ front
      pub is : whole ≡ after (front ++ slice_range fields kept start) (joined d (all count (parts (drop start fields))))
      pub ordered : kept ≤ start
      pub within : start ≤ length fields
      pub counted : count ≤ start

    pub begun-none : (old : List ℕ) → Begun old 0 0 0 old
    begun-none old = record {
      front = [];
      added = sym (append-nil old);
      is = sym (after-nil whole);
      ordered = omega arith;
      within = omega arith;
      counted = omega arith;
    }

    -- no part is changed from here on
    pub begun-done : {old now : List ℕ} {kept start count : ℕ} (begun : Begun old kept start count now)
        → is_chosen_from list (count + 1) ≡ false → whole ≡ Ok (begun.front ++ drop kept fields)
    begun-done {old} {now} {kept} {start} {count} begun past =
        let bytes : slice_range fields kept start ++ drop start fields ≡ drop kept fields =
        ap (λ l. slice_range fields kept start ++ l) (sym (take_rest fields start))
        ∙ sym (slice-more fields kept start (length fields) begun.ordered begun.within) ∙ take_rest fields kept in
        begun.is ∙ ap (λ r. after (begun.front ++ slice_range fields kept start) (joined d r))
        (all-plain count (parts (drop start fields)) past)
        ∙ ap (λ l. Ok ((begun.front ++ slice_range fields kept start) ++ l)) (split-joined q d Start (drop start fields))
        ∙ ap Ok (append_assoc begun.front (slice_range fields kept start) (drop start fields) ∙ ap (λ l. begun.front ++ l) bytes)

    -- the same after a part that ends at `end`, and is followed by these
    pub record Past (old : List ℕ) (kept end count : ℕ) (rest : List (List ℕ)) (now : List ℕ) : Type 0 where
      pub front : List ℕ
      pub added : now ≡ old ++ front
      pub is : whole ≡ after (front ++ slice_range fields kept end) (tailed d (all count rest))
      pub ordered : kept ≤ end

    module _ {old now : List ℕ} {kept start count end : ℕ} (begun : Begun old kept start count now)
        (next : Step plan.dialect.separation fields start end) (n : ℕ)
        (counted : n ≡ next_number count (slice_range fields start end)) where
      abbrev part : List ℕ
      part = slice_range fields start end

      abbrev before : List ℕ
      before = begun.front ++ slice_range fields kept start

      here : (first : Result (List ℕ) (Cause E)) → part_converted plan converted n part ≡ first
          → whole ≡ after before (followed first (tailed d (all n next.rest)))
      here first is = begun.is ∙ ap (λ l. after before (joined d (all count l))) next.split
          ∙ ap (after before) (joined-first d (part_converted plan converted (next_number count part) part)
          (all (next_number count part) next.rest))
          ∙ ap (λ k. after before (followed (part_converted plan converted k part) (tailed d (all k next.rest)))) (sym counted)
          ∙ ap (λ x. after before (followed x (tailed d (all n next.rest)))) is

      pub past-kept : (is_field plan.dialect.separation part && is_chosen list n) ≡ false → Past old kept end n next.rest now
      past-kept plain = record {
        front = begun.front;
        added = begun.added;
        is = here (Ok part) (part-plain n part plain) ∙ after-after before part (tailed d (all n next.rest))
            ∙ ap (λ l. after l (tailed d (all n next.rest))) (append_assoc begun.front (slice_range fields kept start) part
            ∙ ap (λ l. begun.front ++ l) (sym (slice-more fields kept start end begun.ordered next.ordered)));
        ordered = let order = begun.ordered in let later = next.ordered in omega (arith, order, later);
      }

      module _ (chosen : (is_field plan.dialect.separation part && is_chosen list n) ≡ true) where
        part-chosen : part_converted plan converted n part ≡ field_converted plan converted n part
        part-chosen = rw chosen refl

        pub past-converted : (new : List ℕ) → IsOkAnd (after (slice_range fields kept start) (field_converted plan converted n part))
            (λ bytes. new ≡ now ++ bytes) → Past old end end n next.rest new
        past-converted new adds = by (field_converted plan converted n part) refl adds
          where
            by : (first : Result (List ℕ) (Cause E)) → field_converted plan converted n part ≡ first →
                IsOkAnd (after (slice_range fields kept start) first) (λ bytes. new ≡ now ++ bytes) → Past old end end n next.rest new
            by (Ok text) is adds = record {
              front = before ++ text;
              added = adds ∙ ap (λ l. l ++ (slice_range fields kept start ++ text)) begun.added
                  ∙ append_assoc old begun.front (slice_range fields kept start ++ text)
                  ∙ ap (λ l. old ++ l) (sym (append_assoc begun.front (slice_range fields kept start) text));
              is = here (Ok text) (part-chosen ∙ is) ∙ after-after before text (tailed d (all n next.rest))
                  ∙ ap (λ l. after l (tailed d (all n next.rest))) (sym (ap (λ l. (before ++ text) ++ l) (none_between fields end)
                  ∙ append-nil (before ++ text)));
              ordered = omega arith;
            }
            by (Err cause) is adds = absurd adds

        pub part-cause : (cause : Cause E) → after (slice_range fields kept start) (field_converted plan converted n part) ≡ Err cause
            → whole ≡ Err cause
        part-cause cause is = here (Err cause) (part-chosen ∙ after-cause (slice_range fields kept start) _ cause is)

    -- it is the last one
    pub past-last : {old now : List ℕ} {kept end count : ℕ} {rest : List (List ℕ)} (past : Past old kept end count rest now) → rest ≡ []
        → end ≡ length fields → whole ≡ after past.front (enough plan count (drop kept fields))
    past-last {old} {now} {kept} {end} {count} {rest} past none last =
        past.is ∙ ap (λ l. after (past.front ++ slice_range fields kept end) (tailed d (all count l))) none
        ∙ sym (after-after past.front (slice_range fields kept end) (tailed d (all count [])))
        ∙ ap (after past.front) (tail-none count (slice_range fields kept end)
        ∙ ap (enough plan count) (ap (slice_range fields kept) last ∙ take_rest fields kept))

    -- or others are after it
    pub past-next : {old now : List ℕ} {kept end count : ℕ} {rest : List (List ℕ)} → Past old kept end count rest now → end < length fields
        → (rest ≡ parts (drop (end + 1) fields)) × (get_or fields end 0 ≡ d) → count ≤ end + 1 → Begun old kept (end + 1) count now
    past-next {old} {now} {kept} {end} {count} {rest} past low next counted =
        let one : end + 1 - end ≡ 1 = omega arith in
        let there : slice_range fields end (end + 1) ≡ d ∷ [] =
        ap (λ k. take k (drop end fields)) one ∙ ap (take 1) (drop_more fields end 0 low) ∙ ap (λ b. b ∷ []) next.1 in
        let order = past.ordered in
        record {
          front = past.front;
          added = past.added;
          is = past.is ∙ ap (λ l. after (past.front ++ slice_range fields kept end) (tailed d (all count l))) next.0
              ∙ ap (after (past.front ++ slice_range fields kept end))
              (tail-some count (parts (drop (end + 1) fields)) (split-some q d Start (drop (end + 1) fields)))
              ∙ after-after (past.front ++ slice_range fields kept end) (d ∷ []) (joined d (all count (parts (drop (end + 1) fields))))
              ∙ ap (λ l. after l (joined d (all count (parts (drop (end + 1) fields)))))
              (append_assoc past.front (slice_range fields kept end) (d ∷ []) ∙ ap (λ l. past.front ++ l)
              (ap (λ l. slice_range fields kept end ++ l) (sym there)
              ∙ sym (slice-more fields kept end (end + 1) past.ordered (omega arith))));
          ordered = omega (arith, order);
          within = omega (arith, low);
          counted = counted;
        }

  -- a record of so many bytes of fields is they and what is at its end
  module _ (text : List ℕ) (len : ℕ) (len_is : len ≡ fields_len text) where
    abbrev ended : Result (List ℕ) (Cause E) → Result (List ℕ) (Cause E)
    ended fields = result_map_both (λ t. t ++ drop len text) (λ cause. cause) fields

    line-is : line_of plan converted text ≡ ended (whole (take len text))
    line-is = rw len_is (by (all 0 (parts (take (fields_len text) text))))
      where
        by : (texts : Result (List (List ℕ)) (Cause E)) →
            result_map_both (λ l. join_with_byte d l ++ drop (fields_len text) text) (λ cause. cause) texts
            ≡ result_map_both (λ t. t ++ drop (fields_len text) text) (λ cause. cause) (joined d texts)
        by (Ok texts) = refl
        by (Err cause) = refl

    kept-all : (kept : ℕ) → kept ≤ len → len ≤ length text → drop kept (take len text) ++ drop len text ≡ drop kept text
    kept-all kept low within =
        sym (drop-append-le kept (take len text) (drop len text) (omega (arith, low, length-take-le len text within)))
        ∙ ap (drop kept) (take-append-drop len text)

    pub line-cause : (cause : Cause E) → whole (take len text) ≡ Err cause → line_of plan converted text ≡ Err cause
    line-cause cause is = line-is ∙ ap ended is

    pub line-done : (kept : ℕ) (front : List ℕ) → kept ≤ len → len ≤ length text
        → whole (take len text) ≡ Ok (front ++ drop kept (take len text)) → line_of plan converted text ≡ Ok (front ++ drop kept text)
    line-done kept front low within is =
        line-is ∙ ap ended is ∙ ap Ok (append_assoc front (drop kept (take len text)) (drop len text)
        ∙ ap (λ l. front ++ l) (kept-all kept low within))

    pub line-last : (kept count : ℕ) (front : List ℕ) → kept ≤ len → len ≤ length text →
        whole (take len text) ≡ after front (enough plan count (drop kept (take len text)))
        → line_of plan converted text ≡ after front (enough plan count (drop kept text))
    line-last kept count front low within is = line-is ∙ ap ended is ∙ by (nat_le (wanted list) count)
      where
        by : (is : Bool) →
            ended (after front (if is then Ok (drop kept (take len text)) else Err (Few count (wanted list))))
            ≡ after front (if is then Ok (drop kept text) else Err (Few count (wanted list)))
        by true = ap Ok (append_assoc front (drop kept (take len text)) (drop len text) ∙ ap (λ l. front ++ l) (kept-all kept low within))
        by false = refl
