-- What becomes of the fields of a line where those of ranges are written alone, field after field.
use Rattle.regroup_lines.proofs.Common.{Bool, Err, Fault, FieldRange, Fields, List, None, NotationData, Ok, Option, Result, Rules, Some}
use Rattle.regroup_lines.proofs.Common.{[], after, all_written, chosen_replaced, fields_of, fold-append, followed, line_ended, lt-leb}
use Rattle.regroup_lines.proofs.Common.{ap, append-nil, append_assoc, arith, false, field_written, flat_map, if◌then◌else◌, is_at_most}
use Rattle.regroup_lines.proofs.Common.{is_counted, join_with_byte, nat_le, number_of, output_delimiter, refl, leb-false}
use Rattle.regroup_lines.proofs.Common.{result_map_both, subst, sym, true, with_first, ℕ, ◌&&◌, ◌++◌, ◌+◌, ◌||◌, ◌∙◌, ◌∷◌, ◌≡◌, ◌≤◌, ◌<◌}
use Rattle.regroup_lines.proofs.AddLemmas.{AddsIf-after, adds_nil, adds_trans, after-after, after-nil}
use Rattle.regroup_lines.proofs.FieldLemmas.{and_false, number-by}
use Rattle.regroup_lines.specs.Adding.{Adds, AddsIf}
use Rattle.regroup_lines.specs.Cursor.{Passes, TakesField, is_begun_by, joined_after, left, left_in}
use Rattle.std.specs.Borrow.{Bor}
use Rattle.regroup_lines.specs.Places.{count_after, is_in, numbered_in}
use Rattle.regroup_lines.specs.declared.cursor.Cursor.{Cursor}

past-more : (last : Option ℕ) (n : ℕ) → is_at_most n last ≡ false → is_at_most (n + 1) last ≡ false
past-more None n past = past
past-more (Some last) n past = grind (arith, leb-false, lt-leb)

-- where a range does not reach a field, none from it on is in the range
pub numbered-past : (range : FieldRange) (blanks : Bool) (count : ℕ) (fields : List (List ℕ))
    → is_at_most (count + 1) range.last ≡ false → numbered_in range blanks count fields ≡ []
numbered-past range blanks count [] past = refl
numbered-past range blanks count (field ∷ fields) past =
    let other : (is_in range (number_of blanks count field) && is_counted blanks field) ≡ false =
    number-by (λ n is. (is_in range n && is) ≡ false) blanks count field (rw (and_false _ _ past) refl) (and_false _ false refl) in
    let later : is_at_most (number_of blanks count field + 1) range.last ≡ false =
    number-by (λ n is. is_at_most (n + 1) range.last ≡ false) blanks count field (past-more range.last (count + 1) past) past in
    rw other (numbered-past range blanks (number_of blanks count field) fields later)

counted-up : (blanks : Bool) (count : ℕ) (passed : List (List ℕ)) → count ≤ count_after blanks count passed
counted-up blanks count [] = omega arith
counted-up blanks count (field ∷ passed) =
    let more : count ≤ number_of blanks count field = number-by (λ n is. count ≤ n) blanks count field (omega arith) (omega arith) in
    let rest = counted-up blanks (number_of blanks count field) passed in omega (arith, more, rest)

-- nor is one before its first field
pub numbered-passed : (range : FieldRange) (blanks : Bool) (count : ℕ) (passed rest : List (List ℕ))
    → count_after blanks count passed < range.first
    → numbered_in range blanks count (passed ++ rest) ≡ numbered_in range blanks (count_after blanks count passed) rest
numbered-passed range blanks count [] rest low = refl
numbered-passed range blanks count (field ∷ passed) rest low =
    let n = number_of blanks count field in
    let below : n < range.first = let up = counted-up blanks n passed in omega (arith, up, low) in
    let before : nat_le range.first n ≡ false = lt-leb range.first n below in
    rw before (numbered-passed range blanks n passed rest low)

joined-first : (d : ℕ) (text : List ℕ) (texts : List (List ℕ)) → join_with_byte d (text ∷ texts) ≡ text ++ flat_map (λ t. d ∷ t) texts
joined-first d text [] = sym (append-nil text)
joined-first d text (next ∷ texts) = ap (λ l. text ++ d ∷ l) (joined-first d next texts)

joined-next : (d : ℕ) (begun : Bool) (text : List ℕ) (texts : List (List ℕ)) →
    joined_after begun d (text ∷ texts) ≡ ((if begun then d ∷ [] else []) ++ text) ++ flat_map (λ t. d ∷ t) texts
joined-next d true text texts = refl
joined-next d false text texts = joined-first d text texts

begun-true : (items : List (ℕ × List ℕ)) → is_begun_by true items ≡ true
begun-true [] = refl
begun-true (item ∷ items) = refl

begun-if : (asked begun : Bool) (item : ℕ × List ℕ) (items : List (ℕ × List ℕ))
    → is_begun_by begun (if asked then item ∷ items else items) ≡ is_begun_by (begun || asked) items
begun-if true true item items = sym (begun-true items)
begun-if true false item items = sym (begun-true items)
begun-if false true item items = refl
begun-if false false item items = refl

-- whether a field is in a range, by the two tests of it
pub asked-both : (asked counted contains p q : Bool) → contains ≡ p → contains ≡ true → asked ≡ counted → counted ≡ q → asked ≡ (p && q)
asked-both asked counted contains true q is holds same counts = same ∙ counts
asked-both asked counted contains false q is holds same counts = absurd (cc (is, holds))

pub asked-not : (asked contains p q : Bool) → contains ≡ p → contains ≡ false → asked ≡ contains → asked ≡ (p && q)
asked-not asked contains false q is fails same = same ∙ fails
asked-not asked contains true q is fails same = absurd (cc (is, fails))

followed-followed : (x y z : Result (List ℕ) Fault) → followed (followed x y) z ≡ followed x (followed y z)
followed-followed (Ok a) (Ok b) (Ok c) = ap Ok (append_assoc a b c)
followed-followed (Ok a) (Ok b) (Err f) = refl
followed-followed (Ok a) (Err f) z = refl
followed-followed (Err f) y z = refl

module _ (rules : Rules) (cs : Fields) (from to : NotationData) (number : ℕ) where
  abbrev d : ℕ
  d = output_delimiter cs

  -- fields as they are written, by whether some are before them
  abbrev pub texts_of : Bool → List (ℕ × List ℕ) → Result (List ℕ) Fault
  texts_of begun items = result_map_both (joined_after begun d) (λ fault. fault) (all_written rules cs from to number items)

  abbrev one : ℕ → List ℕ → Result (List ℕ) Fault
  one n field = field_written rules cs from to number n field

  -- the next field as it is written, if it is
  abbrev pub Next : (asked begun : Bool) → ℕ → List ℕ → Result (List ℕ) Fault
  Next asked begun n field = if asked then after (if begun then d ∷ [] else []) (one n field) else Ok []

  texts-first : (begun : Bool) (n : ℕ) (field : List ℕ) (items : List (ℕ × List ℕ))
      → texts_of begun ((n, field) ∷ items) ≡ followed (Next true begun n field) (texts_of true items)
  texts-first begun n field items = by (one n field) (all_written rules cs from to number items)
    where
      by : (first : Result (List ℕ) Fault) (rest : Result (List (List ℕ)) Fault) →
          result_map_both (joined_after begun d) (λ fault. fault) (with_first first rest)
          ≡ followed (after (if begun then d ∷ [] else []) first) (result_map_both (joined_after true d) (λ fault. fault) rest)
      by (Ok t) (Ok texts) = ap Ok (joined-next d begun t texts)
      by (Ok t) (Err f) = refl
      by (Err f) rest = refl

  -- fields, and others after them
  pub texts-append : (begun : Bool) (items more : List (ℕ × List ℕ))
      → texts_of begun (items ++ more) ≡ followed (texts_of begun items) (texts_of (is_begun_by begun items) more)
  texts-append true [] more = sym (after-nil (texts_of true more))
  texts-append false [] more = sym (after-nil (texts_of false more))
  texts-append begun (item ∷ items) more =
      texts-first begun item.0 item.1 (items ++ more)
      ∙ ap (followed (Next true begun item.0 item.1)) (texts-append true items more
      ∙ ap (λ b. followed (texts_of true items) (texts_of b more)) (begun-true items))
      ∙ sym (followed-followed (Next true begun item.0 item.1) (texts_of true items) (texts_of true more))
      ∙ ap (λ x. followed x (texts_of true more)) (sym (texts-first begun item.0 item.1 items))

  texts-next : (asked begun : Bool) (n : ℕ) (field : List ℕ) (items : List (ℕ × List ℕ)) →
      texts_of begun (if asked then (n, field) ∷ items else items)
      ≡ followed (Next asked begun n field) (texts_of (begun || asked) items)
  texts-next true true n field items = texts-first true n field items
  texts-next true false n field items = texts-first false n field items
  texts-next false true n field items = sym (after-nil (texts_of true items))
  texts-next false false n field items = sym (after-nil (texts_of false items))

  nothing : (begun : Bool) → texts_of begun [] ≡ Ok []
  nothing true = refl
  nothing false = refl

  module _ (range : FieldRange) (first : Cursor) (was_begun : Bool) (old : Option (List ℕ)) where
    abbrev items : Cursor → List (ℕ × List ℕ)
    items cursor = left_in range cs cursor

    -- bytes were appended, and what is written of the fields of the range is these and what is made of those that are left
    abbrev pub Begun : Bool → Cursor → Option (List ℕ) → Type 0
    Begun begun cursor now = (front : List ℕ) × Adds old now front
        × (texts_of was_begun (items first) ≡ after front (texts_of begun (items cursor)))
        × (is_begun_by was_begun (items first) ≡ is_begun_by begun (items cursor)) × Passes cs first cursor

    pub begun-none : Begun was_begun first old
    begun-none = (
      [],
      adds_nil old,
      sym (after-nil (texts_of was_begun (items first))),
      refl,
      record { passed = []; before = refl; counted = refl; in_line = refl },
    )

    -- no field of the range is left
    pub begun-done : (begun : Bool) (cursor : Cursor) (now : Option (List ℕ)) → Begun begun cursor now → items cursor ≡ [] →
        AddsIf {T = Bool} (texts_of was_begun (items first)) old now (Ok begun) × (begun ≡ is_begun_by was_begun (items first))
    begun-done begun cursor now so_far none =
        let whole : texts_of was_begun (items first) ≡ Ok so_far.0 =
        so_far.2 ∙ ap (λ l. after so_far.0 (texts_of begun l)) none ∙ ap (after so_far.0) (nothing begun)
        ∙ ap Ok (append-nil so_far.0) in (
          subst (λ x. AddsIf {T = Bool} x old now (Ok begun)) (sym whole) so_far.1,
          sym (so_far.3 ∙ ap (is_begun_by begun) none),
        )

    module _ (begun : Bool) (cursor : Cursor) (now : Option (List ℕ)) (so_far : Begun begun cursor now) (field : Bor (List ℕ))
        (next : Cursor) (takes : TakesField cs cursor next (Some field)) (asked : Bool)
        (is : asked ≡ (is_in range next.count && is_counted cs.blanks field.now)) (new : Option (List ℕ)) where
      items-next : items cursor ≡ (if asked then (next.count, field.now) ∷ items next else items next)
      items-next = ap (numbered_in range cs.blanks cursor.count) takes.0 ∙ by next.count takes.1 asked is
        where
          by : (n : ℕ) → n ≡ number_of cs.blanks cursor.count field.now → (asked : Bool)
              → asked ≡ (is_in range n && is_counted cs.blanks field.now) →
              numbered_in range cs.blanks cursor.count (field.now ∷ left cs next)
              ≡ (if asked then (n, field.now) ∷ numbered_in range cs.blanks n (left cs next)
              else numbered_in range cs.blanks n (left cs next))
          by n same asked is = rw (is, same) refl

      here : texts_of was_begun (items first)
          ≡ after so_far.0 (followed (Next asked begun next.count field.now) (texts_of (begun || asked) (items next)))
      here = so_far.2 ∙ ap (λ l. after so_far.0 (texts_of begun l)) items-next
          ∙ ap (after so_far.0) (texts-next asked begun next.count field.now (items next))

      -- the next field is passed, and written if it is in the range, or at fault
      pub begun-next : AddsIf {T = Unit {0}} (Next asked begun next.count field.now) now new (Ok tt) → Begun (begun || asked) next new
      begun-next = by (Next asked begun next.count field.now) refl
        where
          by : (text : Result (List ℕ) Fault) → Next asked begun next.count field.now ≡ text → AddsIf {T = Unit {0}} text now new (Ok tt)
              → Begun (begun || asked) next new
          by (Ok text) same adds = (
            so_far.0 ++ text,
            adds_trans old now new so_far.0 text so_far.1 adds,
            here ∙ ap (λ x. after so_far.0 (followed x (texts_of (begun || asked) (items next)))) same
                ∙ after-after so_far.0 text (texts_of (begun || asked) (items next)),
            so_far.3 ∙ ap (is_begun_by begun) items-next ∙ begun-if asked begun (next.count, field.now) (items next),
            record {
              passed = so_far.4.passed ++ field.now ∷ [];
              before = so_far.4.before ∙ ap (λ l. so_far.4.passed ++ l) takes.0
                  ∙ sym (append_assoc so_far.4.passed (field.now ∷ []) (left cs next));
              counted = takes.1 ∙ ap (λ n. number_of cs.blanks n field.now) so_far.4.counted
                  ∙ sym (fold-append (number_of cs.blanks) first.count so_far.4.passed (field.now ∷ []));
              in_line = takes.2 ∙ so_far.4.in_line;
            },
          )
          by (Err f) same adds = absurd adds

      pub begun-fault : (fault : Fault) → AddsIf {T = Unit {0}} (Next asked begun next.count field.now) now new (Err fault)
          → AddsIf {T = Bool} (texts_of was_begun (items first)) old new (Err fault)
      begun-fault fault = by (Next asked begun next.count field.now) refl
        where
          by : (text : Result (List ℕ) Fault) → Next asked begun next.count field.now ≡ text
              → AddsIf {T = Unit {0}} text now new (Err fault) → AddsIf {T = Bool} (texts_of was_begun (items first)) old new (Err fault)
          by (Ok text) same adds = absurd adds
          by (Err f) same adds = subst (λ x. AddsIf {T = Bool} x old new (Err fault))
              (sym (here ∙ ap (λ x. after so_far.0 (followed x (texts_of (begun || asked) (items next)))) same)) adds

  -- the ranges of a list in turn, by a cursor before all fields of a line
  module _ (list : List FieldRange) (line : List ℕ) (start : Cursor) (old : Option (List ℕ)) where
    abbrev all_in : FieldRange → List (ℕ × List ℕ)
    all_in range = numbered_in range cs.blanks 0 (fields_of cs line)

    abbrev in_ranges : List FieldRange → List (ℕ × List ℕ)
    in_ranges ranges = flat_map all_in ranges

    -- bytes were appended, and what is written of the list is these and what is made of the ranges that are left
    abbrev pub Listed : Bool → List FieldRange → Cursor → Option (List ℕ) → Type 0
    Listed begun ranges cursor now = (front : List ℕ) × Adds old now front
        × (texts_of false (in_ranges list) ≡ after front (texts_of begun (in_ranges ranges))) × Passes cs start cursor

    pub listed-none : Listed false list start old
    listed-none = (
      [],
      adds_nil old,
      sym (after-nil (texts_of false (in_ranges list))),
      record { passed = []; before = refl; counted = refl; in_line = refl },
    )

    passes-trans : (a b c : Cursor) → Passes cs a b → Passes cs b c → Passes cs a c
    passes-trans a b c ab bc = record {
      passed = ab.passed ++ bc.passed;
      before = ab.before ∙ ap (λ l. ab.passed ++ l) bc.before ∙ sym (append_assoc ab.passed bc.passed (left cs c));
      counted = bc.counted ∙ ap (λ n. count_after cs.blanks n bc.passed) ab.counted
          ∙ sym (fold-append (number_of cs.blanks) a.count ab.passed bc.passed);
      in_line = bc.in_line ∙ ab.in_line;
    }

    module _ (begun : Bool) (range : FieldRange) (ranges : List FieldRange) (cursor : Cursor) (now : Option (List ℕ))
        (so_far : Listed begun (range ∷ ranges) cursor now) (here : Cursor)
        (is_before : (left_in range cs here ≡ all_in range) × Passes cs start here) (new : Option (List ℕ)) where
      whole : texts_of false (in_ranges list)
          ≡ after so_far.0 (followed (texts_of begun (left_in range cs here))
          (texts_of (is_begun_by begun (left_in range cs here)) (in_ranges ranges)))
      whole = so_far.2 ∙ ap (after so_far.0) (ap (λ l. texts_of begun (l ++ in_ranges ranges)) (sym is_before.0)
          ∙ texts-append begun (left_in range cs here) (in_ranges ranges))

      pub listed-next : (is_begun : Bool) (next : Cursor) →
          AddsIf {T = Bool} (texts_of begun (left_in range cs here)) now new (Ok is_begun)
          → is_begun ≡ is_begun_by begun (left_in range cs here) → Passes cs here next → Listed is_begun ranges next new
      listed-next is_begun next adds is passes = by (texts_of begun (left_in range cs here)) refl adds
        where
          by : (text : Result (List ℕ) Fault) → texts_of begun (left_in range cs here) ≡ text
              → AddsIf {T = Bool} text now new (Ok is_begun) → Listed is_begun ranges next new
          by (Ok text) same adds = (
            so_far.0 ++ text,
            adds_trans old now new so_far.0 text so_far.1 adds,
            whole ∙ ap (λ x. after so_far.0 (followed x (texts_of (is_begun_by begun (left_in range cs here)) (in_ranges ranges)))) same
                ∙ after-after so_far.0 text (texts_of (is_begun_by begun (left_in range cs here)) (in_ranges ranges))
                ∙ ap (λ b. after (so_far.0 ++ text) (texts_of b (in_ranges ranges))) (sym is),
            passes-trans start here next is_before.1 passes,
          )
          by (Err f) same adds = absurd adds

      pub listed-fault : (fault : Fault) → AddsIf {T = Bool} (texts_of begun (left_in range cs here)) now new (Err fault)
          → AddsIf {T = Unit {0}} (chosen_replaced cs list rules from to number line) old new (Err fault)
      listed-fault fault = by (texts_of begun (left_in range cs here)) refl
        where
          by : (text : Result (List ℕ) Fault) → texts_of begun (left_in range cs here) ≡ text → AddsIf {T = Bool} text now new (Err fault)
              → AddsIf {T = Unit {0}} (chosen_replaced cs list rules from to number line) old new (Err fault)
          by (Ok text) same adds = absurd adds
          by (Err f) same adds = subst (λ x. AddsIf {T = Unit {0}} (followed x (line_ended cs number
              (count_after cs.blanks 0 (fields_of cs line)) [])) old new (Err fault))
              (sym (whole ∙ ap (λ x. after so_far.0 (followed x
              (texts_of (is_begun_by begun (left_in range cs here)) (in_ranges ranges)))) same))
              adds

    -- it is before all of them
    module _ (same : left cs start ≡ fields_of cs line) (zero : start.count ≡ 0) where
      start-in : (range : FieldRange) → left_in range cs start ≡ all_in range
      start-in range = ap (λ l. numbered_in range cs.blanks start.count l) same
          ∙ ap (λ n. numbered_in range cs.blanks n (fields_of cs line)) zero

      -- a cursor there, or one that did not pass a field of the range, is before all its fields
      pub here-start : (range : FieldRange) (moved : Cursor) → moved ≡ start
          → (left_in range cs moved ≡ all_in range) × Passes cs start moved
      here-start range moved is = (
        ap (left_in range cs) is ∙ start-in range,
        subst (Passes cs start) (sym is) (record { passed = []; before = refl; counted = refl; in_line = refl }),
      )

      pub here-cursor : (range : FieldRange) (cursor moved : Cursor) → Passes cs start cursor → cursor.count < range.first → moved ≡ cursor
          → (left_in range cs moved ≡ all_in range) × Passes cs start moved
      here-cursor range cursor moved passes low is =
          let below : count_after cs.blanks start.count passes.passed < range.first =
          subst (λ n. n < range.first) passes.counted low in (
            ap (left_in range cs) is ∙ ap (λ n. numbered_in range cs.blanks n (left cs cursor)) passes.counted
                ∙ sym (numbered-passed range cs.blanks start.count passes.passed (left cs cursor) below)
                ∙ ap (numbered_in range cs.blanks start.count) (sym passes.before) ∙ start-in range,
            subst (Passes cs start) (sym is) passes,
          )

      -- no range is left
      pub listed-all : (begun : Bool) (cursor : Cursor) (now : Option (List ℕ)) → Listed begun [] cursor now → (count : ℕ)
          → count ≡ count_after cs.blanks cursor.count (left cs cursor) → (new : Option (List ℕ)) (result : Result (Unit {0}) Fault)
          → AddsIf (line_ended cs number count []) now new result
          → AddsIf (chosen_replaced cs list rules from to number line) old new result
      listed-all begun cursor now so_far count counted new result adds =
          let passes = so_far.3 in
          let total : count ≡ count_after cs.blanks 0 (fields_of cs line) =
          counted ∙ ap (λ n. count_after cs.blanks n (left cs cursor)) passes.counted
          ∙ sym (fold-append (number_of cs.blanks) start.count passes.passed (left cs cursor))
          ∙ ap (count_after cs.blanks start.count) (sym passes.before ∙ same)
          ∙ ap (λ n. count_after cs.blanks n (fields_of cs line)) zero in
          let whole : texts_of false (in_ranges list) ≡ Ok so_far.0 =
          so_far.2 ∙ ap (after so_far.0) (nothing begun) ∙ ap Ok (append-nil so_far.0) in
          subst (λ x. AddsIf (followed x (line_ended cs number (count_after cs.blanks 0 (fields_of cs line)) [])) old new result)
          (sym whole) (subst (λ n. AddsIf (after so_far.0 (line_ended cs number n [])) old new result) total
          (AddsIf-after old now new so_far.0 (line_ended cs number count []) result so_far.1 adds))
