-- What becomes of the fields of a line, field after field.
use Rattle.regroup_lines.proofs.Common.{fold, Some, Bool, Err, Fault, Fields, FieldRange, NotationData, List, None, Ok, Option, Result}
use Rattle.regroup_lines.proofs.Common.{Rules, Start, CsvState, [], after, ap, append-nil, append_assoc, are_enough, arith, drop, drop-drop}
use Rattle.regroup_lines.proofs.Common.{drop_more, Decides-ltb, false, field_written, fields_of, fields_written, followed, get_or}
use Rattle.regroup_lines.proofs.Common.{is_chosen}
use Rattle.regroup_lines.proofs.Common.{if◌then◌else◌, is_chosen_field, is_chosen_from, is_counted, join_with_byte, le-leb, leb-false}
use Rattle.regroup_lines.proofs.Common.{length, line_ended, lt-leb, ltb-false, nat_lt, number_of}
use Rattle.regroup_lines.proofs.Common.{output_delimiter, quotes_of, refl, result_map_both, inl, inr, slice_range, subst, sym, take}
use Rattle.regroup_lines.proofs.Common.{take_rest, true, with_first, ⊤, ℕ, ◌&&◌, ◌++◌, ◌+◌, ◌-◌, ◌<◌, ◌∙◌, ◌∷◌, ◌≡◌, ◌≤◌, length-drop}
use Rattle.regroup_lines.proofs.AddLemmas.{adds_nil, adds_trans, AddsIf-after, after-after, after-nil}
use Rattle.std.specs.Prelude.{◌⊎◌}
use Rattle.regroup_lines.specs.Adding.{Adds, AddsIf, Separates}
use Rattle.regroup_lines.specs.Places.{least_of, next_of}
use Rattle.regroup_lines.specs.declared.rules.Output.{Output}
use Rattle.regroup_lines.proofs.RecordLemmas.{Ends, Ends-same, slice-more, split-joined, split-last, split-next, split-some}

pub and_false : (x y : Bool) → y ≡ false → (x && y) ≡ false
and_false x y past = grind arith

-- where no range reaches a field, neither it nor one after it is chosen, and the line has enough of them
chosen-none : (list : List FieldRange) (n : ℕ) → is_chosen_from list n ≡ false → is_chosen list n ≡ false
chosen-none [] n past = refl
chosen-none (range ∷ list) n past = grind (arith, chosen-none list n)

chosen_from-later : (list : List FieldRange) (n : ℕ) → is_chosen_from list n ≡ false → is_chosen_from list (n + 1) ≡ false
chosen_from-later [] n past = refl
chosen_from-later (range ∷ list) n past = grind (arith, leb-false, lt-leb, chosen_from-later list n)

enough-all : (list : List FieldRange) (count : ℕ) → is_chosen_from list (count + 1) ≡ false → are_enough list count ≡ true
enough-all [] count past = refl
enough-all (range ∷ list) count past = grind (arith, leb-false, le-leb, enough-all list count)

-- what is true of a field that is counted, and of another one
pub number-by : (P : ℕ → Bool → Type 0) (blanks : Bool) (before : ℕ) (field : List ℕ) → P (before + 1) true → P before false
    → P (number_of blanks before field) (is_counted blanks field)
number-by P blanks before field counted other = by (is_counted blanks field)
  where
    by : (is : Bool) → P (if is then before + 1 else before) is
    by true = counted
    by false = other

-- where no range reaches a number, the next field is not chosen, nor one after it
pub past-field : (list : List FieldRange) (blanks : Bool) (count : ℕ) (field : List ℕ) → is_chosen_from list (count + 1) ≡ false
    → is_chosen_field list blanks (number_of blanks count field) field ≡ false
past-field list blanks count field past =
    number-by (λ n is. (is_chosen list n && is) ≡ false) blanks count field (rw (chosen-none list (count + 1) past) refl)
    (and_false _ false refl)

pub past-later : (list : List FieldRange) (blanks : Bool) (count : ℕ) (field : List ℕ) → is_chosen_from list (count + 1) ≡ false
    → is_chosen_from list (number_of blanks count field + 1) ≡ false
past-later list blanks count field past =
    number-by (λ n is. is_chosen_from list (n + 1) ≡ false) blanks count field (chosen_from-later list (count + 1) past) past

-- the bytes of each field from one number on and before the next one are passed on, or of each from that one on
abbrev pub IsNext : Fields → (from : ℕ) → (next : Option ℕ) → Type 0
IsNext cs from None = (cs.output ≡ None) × (is_chosen_from cs.list.now from ≡ false)
IsNext cs from (Some next) = (0 < next → cs.output ≡ None) × ((n : ℕ) → from ≤ n → n < next → is_chosen cs.list.now n ≡ false)

module _ (from : ℕ) where
  abbrev Below : ℕ → Option ℕ → Type 0
  Below n None = ⊤
  Below n (Some next) = n < next

  -- the same by ranges, and by the number that other ranges gave
  abbrev IsLeast : List FieldRange → (before next : Option ℕ) → Type 0
  IsLeast list before None = (before ≡ None) × (is_chosen_from list from ≡ false)
  IsLeast list before (Some next) = (n : ℕ) → from ≤ n → n < next → Below n before × (is_chosen list n ≡ false)

  least-more : (range : FieldRange) (list : List FieldRange) (before next : Option ℕ) → IsLeast list (least_of from before range) next
      → IsLeast (range ∷ list) before next
  least-more range list before None least = grind arith
  least-more range list before (Some next) least = λ n low below. let rest = least n low below
      in (grind (arith, rest), grind (arith, rest, leb-false, lt-leb, le-leb))

  least-is : (list : List FieldRange) (before : Option ℕ) → IsLeast list before (fold (least_of from) before list)
  least-is [] None = (refl, refl)
  least-is [] (Some next) = λ n low below. (below, refl)
  least-is (range ∷ list) before = least-more range list before (fold (least_of from) (least_of from before range) list)
      (least-is list (least_of from before range))

pub next-is : (cs : Fields) (from : ℕ) → IsNext cs from (next_of cs.output cs.list.now from)
next-is cs from = by cs.output refl
  where
    of : (next : Option ℕ) → cs.output ≡ None → IsLeast from cs.list.now None next → IsNext cs from next
    of None none least = (none, least.1)
    of (Some next) none least = ((λ some. none), (λ n low below. (least n low below).1))

    by : (output : Option Output) → cs.output ≡ output → IsNext cs from (next_of output cs.list.now from)
    by None is = of (fold (least_of from) None cs.list.now) is (least-is from cs.list.now None)
    by (Some output) is = ((λ some. absurd (omega (arith, some))), (λ n low below. absurd (omega (arith, below))))

next-onward : (cs : Fields) (from : ℕ) (next : Option ℕ) → IsNext cs from next → IsNext cs (from + 1) next
next-onward cs from None is = (is.0, chosen_from-later cs.list.now from is.1)
next-onward cs from (Some next) is = (is.0, λ n low below. is.1 n (omega (arith, low)) below)

-- so it is after a field, and one of a number before the next one is passed on
module _ (cs : Fields) (count n : ℕ) (field : List ℕ) (counted : n ≡ number_of cs.blanks count field) where
  pub next-later : (next : Option ℕ) → IsNext cs (count + 1) next → IsNext cs (n + 1) next
  next-later next is = rw counted (number-by (λ k is. IsNext cs (k + 1) next) cs.blanks count field (next-onward cs (count + 1) next is)
      is)

  pub next-kept : (next : ℕ) → IsNext cs (count + 1) (Some next) → n < next
      → (cs.output ≡ None) × (is_chosen_field cs.list.now cs.blanks n field ≡ false)
  next-kept next is below = (
    is.0 (omega (arith, below)),
    subst (λ k. k < next → is_chosen_field cs.list.now cs.blanks k field ≡ false) (sym counted)
        (number-by (λ k counts. k < next → (is_chosen cs.list.now k && counts) ≡ false) cs.blanks count field
        (λ low. rw (is.1 (count + 1) (omega arith) low) refl) (λ low. and_false _ false refl)) below,
  )

-- a field, and those after it, by where it ends
pub split-ended : (cs : Fields) (quotes : Option ℕ) → quotes ≡ quotes_of cs → (text left : List ℕ) (start len : ℕ) (there : CsvState)
    → start ≤ length text → left ≡ drop start text →
    Ends quotes cs.delimiter Start left len there →
    (rest : List (List ℕ)) × (fields_of cs (drop start text) ≡ slice_range text start (start + len) ∷ rest)
    × (start + len ≡ length text → rest ≡ [])
    × (start + len < length text → rest ≡ fields_of cs (drop (start + len + 1) text)) × (start + len ≤ length text)
split-ended cs quotes same text left start len there low is ends = by (nat_lt (start + len) (length text)) refl
  where
    here : Ends (quotes_of cs) cs.delimiter Start (drop start text) len there
    here = Ends-same same is ends

    within : start + len ≤ length text
    within = let inside = here.0.inside in omega (arith, inside, low, length-drop start text)

    by : (below : Bool) → nat_lt (start + len) (length text) ≡ below →
        (rest : List (List ℕ)) × (fields_of cs (drop start text) ≡ slice_range text start (start + len) ∷ rest)
        × (start + len ≡ length text → rest ≡ [])
        × (start + len < length text → rest ≡ fields_of cs (drop (start + len + 1) text)) × (start + len ≤ length text)
    by true is =
        let below = (Decides-ltb (start + len) (length text)).0 is in (
          fields_of cs (drop (start + len + 1) text),
          split-next text start len here below,
          (λ last. absurd (omega (arith, below, last))),
          (λ low. refl),
          within,
        )
    by false is =
        let over = ltb-false (start + len) (length text) is in (
          [],
          split-last text start len here (omega (arith, over, within)),
          (λ last. refl),
          (λ low. absurd (omega (arith, over, low))),
          within,
        )

-- what is left of a text after more of it
pub left-later : (text left : List ℕ) (start n : ℕ) → left ≡ drop start text
    → slice_range left (n + 1) (length left) ≡ drop (start + n + 1) text
left-later text left start n is =
    let onward : start + (n + 1) ≡ start + n + 1 = omega arith in
    take_rest left (n + 1) ∙ ap (drop (n + 1)) is ∙ drop-drop (n + 1) start text ∙ ap (λ k. drop k text) onward

-- what is after a field
abbrev pub tail_of : ℕ → List (List ℕ) → List ℕ
tail_of d [] = []
tail_of d (field ∷ fields) = d ∷ join_with_byte d (field ∷ fields)

pub joined-tail : (d : ℕ) (text : List ℕ) (fields : List (List ℕ)) → join_with_byte d (text ∷ fields) ≡ text ++ tail_of d fields
joined-tail d text fields = grind (arith, append-nil)

pub none_between : (text : List ℕ) (n : ℕ) → slice_range text n n ≡ []
none_between text n = let none : n - n ≡ 0 = omega arith in ap (λ k. take k (drop n text)) none

module _ (rules : Rules) (cs : Fields) (from to : NotationData) (number : ℕ) where
  abbrev d : ℕ
  d = output_delimiter cs

  abbrev n_of : ℕ → List ℕ → ℕ
  n_of count field = number_of cs.blanks count field

  abbrev one_written : ℕ → List ℕ → Result (List ℕ) Fault
  one_written n field = field_written rules cs from to number n field

  -- the fields that so many others are before, and with the delimiter before them too
  abbrev pub left_written : ℕ → List (List ℕ) → Result (List ℕ) Fault
  left_written count fields = result_map_both (join_with_byte d) (λ fault. fault) (fields_written rules cs from to number count fields)

  abbrev pub tail_written : ℕ → List (List ℕ) → Result (List ℕ) Fault
  tail_written count fields = result_map_both (tail_of d) (λ fault. fault) (fields_written rules cs from to number count fields)

  left-field : (count : ℕ) (field : List ℕ) (fields : List (List ℕ))
      → left_written count (field ∷ fields) ≡ followed (one_written (n_of count field) field) (tail_written (n_of count field) fields)
  left-field count field fields =
      by (one_written (n_of count field) field) (fields_written rules cs from to number (n_of count field) fields)
    where
      by : (first : Result (List ℕ) Fault) (rest : Result (List (List ℕ)) Fault) →
          result_map_both (join_with_byte d) (λ fault. fault) (with_first first rest)
          ≡ followed first (result_map_both (tail_of d) (λ fault. fault) rest)
      by (Ok t) (Ok texts) = ap Ok (joined-tail d t texts)
      by (Ok t) (Err f) = refl
      by (Err f) rest = refl

  tail-none : (count : ℕ) → tail_written count [] ≡ line_ended cs number count []
  tail-none count = grind arith

  tail-some : (count : ℕ) (fields : List (List ℕ)) → 0 < length fields
      → tail_written count fields ≡ after (d ∷ []) (left_written count fields)
  tail-some count [] some = absurd (omega arith)
  tail-some count (field ∷ fields) some =
      by (one_written (n_of count field) field) (fields_written rules cs from to number (n_of count field) fields)
    where
      by : (first : Result (List ℕ) Fault) (rest : Result (List (List ℕ)) Fault) →
          result_map_both (tail_of d) (λ fault. fault) (with_first first rest)
          ≡ after (d ∷ []) (result_map_both (join_with_byte d) (λ fault. fault) (with_first first rest))
      by (Ok t) (Ok texts) = refl
      by (Ok t) (Err f) = refl
      by (Err f) rest = refl

  -- fields that are passed on
  one-plain : (n : ℕ) (field : List ℕ) → cs.output ≡ None → is_chosen_field cs.list.now cs.blanks n field ≡ false
      → one_written n field ≡ Ok field
  one-plain n field none plain = rw (plain, none) refl

  all-plain : (count : ℕ) (fields : List (List ℕ)) → cs.output ≡ None → is_chosen_from cs.list.now (count + 1) ≡ false
      → fields_written rules cs from to number count fields ≡ Ok fields
  all-plain count [] none past = rw (enough-all cs.list.now count past) refl
  all-plain count (field ∷ fields) none past =
      rw (
        one-plain (n_of count field) field none (past-field cs.list.now cs.blanks count field past),
        all-plain (n_of count field) fields none (past-later cs.list.now cs.blanks count field past),
      ) refl

  delimiter-plain : cs.output ≡ None → d ≡ cs.delimiter
  delimiter-plain none = rw none refl

  delimiter-anew : (output : Output) → cs.output ≡ Some output → d ≡ output.delimiter
  delimiter-anew output some = rw some refl

  module _ (line : List ℕ) (old : Option (List ℕ)) where
    abbrev whole : Result (List ℕ) Fault
    whole = left_written 0 (fields_of cs line)

    -- bytes were appended, and the whole is these, those from `kept` on that are passed on, and what is made of the fields from `start` on
    abbrev pub Begun : (kept start count : ℕ) → Option (List ℕ) → Type 0
    Begun kept start count now =
        (front : List ℕ) × Adds old now front × (whole ≡ after (front ++ slice_range line kept start)
        (left_written count (fields_of cs (drop start line))))

    -- the same after a field that ends at `end`
    abbrev pub Past : (kept end count : ℕ) → List (List ℕ) → Option (List ℕ) → Type 0
    Past kept end count rest now =
        (front : List ℕ) × Adds old now front × (whole ≡ after (front ++ slice_range line kept end) (tail_written count rest))
        × ((cs.output ≡ None) ⊎ (kept ≡ end))

    module _ (now : Option (List ℕ)) where
      -- no field is changed from here on
      pub begun-done : (kept start count : ℕ) → Begun kept start count now → kept ≤ start → start ≤ length line → cs.output ≡ None
          → is_chosen_from cs.list.now (count + 1) ≡ false →
          (new : Option (List ℕ)) → Adds now new (slice_range line kept (length line)) → AddsIf {T = Unit {0}} whole old new (Ok tt)
      begun-done kept start count begun low within none past new adds =
          let front = begun.0 in
          let rest : left_written count (fields_of cs (drop start line)) ≡ Ok (slice_range line start (length line)) =
          ap (result_map_both (join_with_byte d) (λ fault. fault)) (all-plain count (fields_of cs (drop start line)) none past)
          ∙ ap (λ b. Ok (join_with_byte b (fields_of cs (drop start line)))) (delimiter-plain none)
          ∙ ap Ok (split-joined (quotes_of cs) cs.delimiter Start (drop start line) ∙ sym (take_rest line start)) in
          let same : whole ≡ Ok (front ++ slice_range line kept (length line)) =
          begun.2 ∙ ap (after (front ++ slice_range line kept start)) rest
          ∙ ap Ok (append_assoc front (slice_range line kept start) (slice_range line start (length line))
          ∙ ap (λ l. front ++ l) (sym (slice-more line kept start (length line) low within))) in
          subst (λ x. AddsIf {T = Unit {0}} x old new (Ok tt)) (sym same) (adds_trans old now new front _ begun.1 adds)

      module _ (kept start end count : ℕ) (low : kept ≤ start) (ordered : start ≤ end) (begun : Begun kept start count now)
          (rest : List (List ℕ)) (split : fields_of cs (drop start line) ≡ slice_range line start end ∷ rest) (n : ℕ)
          (counted : n ≡ n_of count (slice_range line start end)) where
        abbrev field : List ℕ
        field = slice_range line start end

        abbrev before : List ℕ
        before = begun.0 ++ slice_range line kept start

        here : (first : Result (List ℕ) Fault) → one_written n field ≡ first → whole
            ≡ after before (followed first (tail_written n rest))
        here first is = begun.2 ∙ ap (after before) (ap (left_written count) split ∙ left-field count field rest
            ∙ ap (λ k. followed (one_written k field) (tail_written k rest)) (sym counted) ∙ ap (λ x. followed x (tail_written n rest)) is)

        -- the field is passed on
        pub begun-kept : cs.output ≡ None → is_chosen_field cs.list.now cs.blanks n field ≡ false → Past kept end n rest now
        begun-kept none plain = (
          begun.0,
          begun.1,
          here (Ok field) (one-plain n field none plain) ∙ after-after before field (tail_written n rest)
              ∙ ap (λ l. after l (tail_written n rest)) (append_assoc begun.0 (slice_range line kept start) field
              ∙ ap (λ l. begun.0 ++ l) (sym (slice-more line kept start end low ordered))),
          inl none,
        )

        -- it is written, or at fault
        module _ (mid new : Option (List ℕ)) (passed : Adds now mid (slice_range line kept start)) where
          pub begun-written : AddsIf {T = Unit {0}} (one_written n field) mid new (Ok tt) → Past end end n rest new
          begun-written = by (one_written n field) refl
            where
              by : (first : Result (List ℕ) Fault) → one_written n field ≡ first → AddsIf {T = Unit {0}} first mid new (Ok tt)
                  → Past end end n rest new
              by (Ok text) is adds = (
                before ++ text,
                adds_trans old mid new before text (adds_trans old now mid begun.0 _ begun.1 passed) adds,
                here (Ok text) is ∙ after-after before text (tail_written n rest)
                    ∙ ap (λ l. after l (tail_written n rest)) (sym (ap (λ l. (before ++ text) ++ l) (none_between line end)
                    ∙ append-nil (before ++ text))),
                inr refl,
              )
              by (Err f) is adds = absurd adds

          pub begun-fault : (fault : Fault) → AddsIf {T = Unit {0}} (one_written n field) mid new (Err fault)
              → AddsIf {T = Unit {0}} whole old new (Err fault)
          begun-fault fault = by (one_written n field) refl
            where
              by : (first : Result (List ℕ) Fault) → one_written n field ≡ first → AddsIf {T = Unit {0}} first mid new (Err fault)
                  → AddsIf {T = Unit {0}} whole old new (Err fault)
              by (Ok text) is adds = absurd adds
              by (Err f) is adds = subst (λ x. AddsIf {T = Unit {0}} x old new (Err fault)) (sym (here (Err f) is)) adds

      module _ (kept end count : ℕ) (low : kept ≤ end) (rest : List (List ℕ)) (past : Past kept end count rest now) where
        -- it is the last one
        pub past-last : end ≡ length line → rest ≡ [] → (new : Option (List ℕ)) (result : Result (Unit {0}) Fault)
            → AddsIf (line_ended cs number count (slice_range line kept (length line))) now new result → AddsIf whole old new result
        past-last ends none new result adds =
            let front = past.0 in
            let kept_bytes = slice_range line kept (length line) in
            let same : whole ≡ after front (line_ended cs number count kept_bytes) =
            past.2 ∙ ap (λ n. after (front ++ slice_range line kept n) (tail_written count rest)) ends
            ∙ ap (λ l. after (front ++ kept_bytes) (tail_written count l)) none ∙ ap (after (front ++ kept_bytes)) (tail-none count)
            ∙ sym (after-after front kept_bytes (line_ended cs number count [])) ∙ ap (after front) (ended kept_bytes) in
            subst (λ x. AddsIf x old new result) (sym same) (AddsIf-after old now new front _ result past.1 adds)
          where
            ended : (bytes : List ℕ) → after bytes (line_ended cs number count []) ≡ line_ended cs number count bytes
            ended bytes = grind (arith, append-nil)

        -- or others are after it
        module _ (others : rest ≡ fields_of cs (drop (end + 1) line)) where
          next : whole ≡ after ((past.0 ++ slice_range line kept end) ++ d ∷ []) (left_written count (fields_of cs (drop (end + 1) line)))
          next =
              past.2 ∙ ap (λ l. after (past.0 ++ slice_range line kept end) (tail_written count l)) others
              ∙ ap (after (past.0 ++ slice_range line kept end)) (tail-some count (fields_of cs (drop (end + 1) line))
              (split-some (quotes_of cs) cs.delimiter Start (drop (end + 1) line)))
              ∙ after-after (past.0 ++ slice_range line kept end) (d ∷ []) (left_written count (fields_of cs (drop (end + 1) line)))

          kept-next : cs.output ≡ None → end < length line → get_or line end 0 ≡ cs.delimiter → Begun kept (end + 1) count now
          kept-next none below is =
              let one : end + 1 - end ≡ 1 = omega arith in
              let byte : slice_range line end (end + 1) ≡ d ∷ [] =
              ap (λ n. take n (drop end line)) one ∙ ap (take 1) (drop_more line end 0 below) ∙ ap (λ b. b ∷ [])
              (is ∙ sym (delimiter-plain none)) in (
                past.0,
                past.1,
                next ∙ ap (λ l. after l (left_written count (fields_of cs (drop (end + 1) line))))
                    (append_assoc past.0 (slice_range line kept end) (d ∷ []) ∙ ap (λ l. past.0 ++ l)
                    (ap (λ l. slice_range line kept end ++ l) (sym byte) ∙ sym (slice-more line kept end (end + 1) low (omega arith)))),
              )

          anew-next : (output : Output) → cs.output ≡ Some output → kept ≡ end → (new : Option (List ℕ))
              → Adds now new (output.delimiter ∷ []) → Begun (end + 1) (end + 1) count new
          anew-next output some all new adds =
              let none : past.0 ++ slice_range line kept end ≡ past.0 =
              ap (λ n. past.0 ++ slice_range line n end) all ∙ ap (λ l. past.0 ++ l) (none_between line end) ∙ append-nil past.0 in (
                past.0 ++ d ∷ [],
                adds_trans old now new past.0 (d ∷ []) past.1 (subst (λ b. Adds now new (b ∷ [])) (sym (delimiter-anew output some)) adds),
                next ∙ ap (λ l. after l (left_written count (fields_of cs (drop (end + 1) line))))
                    (ap (λ l. l ++ d ∷ []) none ∙ sym (ap (λ l. (past.0 ++ d ∷ []) ++ l) (none_between line (end + 1))
                    ∙ append-nil (past.0 ++ d ∷ []))),
              )

          pub past-next : (start : ℕ) → start ≡ end + 1 → end < length line → get_or line end 0 ≡ cs.delimiter → (new : Option (List ℕ))
              (result : ℕ) → Separates cs.output kept start now new result → Begun result start count new
          past-next start is below byte new result = by cs.output refl
            where
              by : (output : Option Output) → cs.output ≡ output → Separates output kept start now new result → Begun result start count new
              by None none separates =
                  subst (λ s. Begun result s count new) (sym is) (subst (λ k. Begun k (end + 1) count new) (sym separates.0)
                  (subst (Begun kept (end + 1) count) (sym separates.1) (kept-next none below byte)))
              by (Some output) some separates =
                  let all : kept ≡ end = elim past.3 [ inl none ↦ absurd (cc (sym some ∙ none)) | inr all ↦ all ] in
                  subst (λ s. Begun result s count new) (sym is) (subst (λ k. Begun k (end + 1) count new) (sym (separates.0 ∙ is))
                  (anew-next output some all new separates.1))

    pub begun-none : Begun 0 0 0 old
    begun-none = ([], adds_nil old, sym (after-nil whole))
