-- Where records and their fields end, byte after byte.
use Rattle.regroup_lines.proofs.Common.{take_rest, ◌≡◌, ℕ, ◌+◌, ◌-◌, ◌<◌, ◌≤◌, ◌==◌, Bool, true, false, List, [], ◌∷◌, ◌++◌, length, take}
use Rattle.regroup_lines.proofs.Common.{drop, get_or, slice_range, Option, Some, None, ⊤, if◌then◌else◌, refl, sym, ap, subst, ◌∙◌, arith}
use Rattle.regroup_lines.proofs.Common.{eq-eqb, take-append-drop, All, cases_Bool, inl, inr, cond, ◌&&◌, not, suc, fold, join_with_byte}
use Rattle.regroup_lines.proofs.Common.{onto_first, eqb-true, or_from, or_parts, drop-drop, drop_more, length-drop, take_all, take_more}
use Rattle.regroup_lines.proofs.Common.{take-append-le, false_from_ne_true, get_or-drop, length-append, zero, fold-append, sum_by-append}
use Rattle.regroup_lines.proofs.Common.{take-add, unwrap_or, HasNoEnd, IsRecord, after_byte, after_record_byte, Searched, after_text}
use Rattle.regroup_lines.proofs.Common.{has_end, is_inside, is_open, line_reached, lines_ended, split_at, CsvState, after_bare}
use Rattle.regroup_lines.proofs.Common.{begins_with_mark, is_quote, nat_eq, next_line, record_start, Start}
use Rattle.std.specs.List.{starts_with}
use Rattle.memchr.specs.Find.{IsFirstByte, Nowhere, Passes, is_byte, is_byte2}
use Rattle.regroup_lines.proofs.ChoiceLemmas.{either}
use Rattle.regroup_lines.specs.declared.records.CsvState.TheVariants.{Bare, Mark, Mark1, Mark2, Quoted}

-- what follows a text where there are no quotes
after-none : (w : CsvState) (text : List ℕ) → w ≡ after_text None w text
after-none w [] = refl
after-none w (b ∷ text) = after-none w text

-- what follows a text without quotes: in a field and outside quotes its last byte tells, and inside quotes it ends nothing
abbrev Unquoted : List ℕ → Type 0
Unquoted text = All (λ b. is_quote b ≡ false) text

abbrev InField : CsvState → Type 0
InField Start = ⊤
InField Bare = ⊤
InField w = ⊥

after-unquoted : (d b : ℕ) (w : CsvState) → InField w → is_quote b ≡ false → after_byte (Some d) w b ≡ after_bare d Bare b
after-unquoted d b Start in_field plain = rw plain refl
after-unquoted d b Bare in_field plain = refl
after-unquoted d b w in_field plain = absurd in_field

pub after-last : (q : Option ℕ) (w : CsvState) (text : List ℕ) → InField w → 1 ≤ length text → Unquoted text
    → after_byte q w (get_or text (length text - 1) 0) ≡ after_text q w text
after-last None w text in_field some plain = after-none w text
after-last (Some d) w [] in_field some plain = absurd (omega arith)
after-last (Some d) w (b ∷ []) in_field some plain = refl
after-last (Some d) w (b ∷ c ∷ text) in_field some plain =
    let last : length (b ∷ c ∷ text) - 1 ≡ suc (length (c ∷ text) - 1) = omega arith in
    let here = plain (suc (length (c ∷ text) - 1)) 0 (omega arith) in
    let next = subst InField (sym (after-unquoted d b w in_field (plain 0 b (omega arith)))) (either InField (b == d) Start Bare tt tt) in
    ap (λ n. after_byte (Some d) w (get_or (b ∷ c ∷ text) n 0)) last ∙ after-unquoted d _ w in_field here
    ∙ sym (after-unquoted d _ (after_byte (Some d) w b) next here)
    ∙ after-last (Some d) (after_byte (Some d) w b) (c ∷ text) next (omega arith) (λ k x low. plain (suc k) x (omega (arith, low)))

pub after-quoted : (q : Option ℕ) (w : CsvState) (text : List ℕ) → is_inside w ≡ true → Unquoted text → w ≡ after_text q w text
after-quoted None w text inside plain = after-none w text
after-quoted (Some d) Quoted [] inside plain = refl
after-quoted (Some d) Quoted (b ∷ text) inside plain =
    let first : is_quote b ≡ false = plain 0 b (omega arith) in
    rw first (after-quoted (Some d) Quoted text refl (λ k x low. plain (suc k) x (omega (arith, low))))
after-quoted (Some d) w text inside plain = absurd (cc)

pub slice-more : (text : List ℕ) (a b c : ℕ) → a ≤ b → b ≤ c → slice_range text a c ≡ slice_range text a b ++ slice_range text b c
slice-more text a b c low high =
    let sum : c - a ≡ b - a + (c - b) = omega arith in
    let there : a + (b - a) ≡ b = omega arith in
    ap (λ n. take n (drop a text)) sum ∙ take-add (b - a) (c - b) (drop a text)
    ∙ ap (λ l. slice_range text a b ++ take (c - b) l) (drop-drop (b - a) a text ∙ ap (λ n. drop n text) there)

-- two places from which the bytes of a text go on alike
abbrev Like : Option ℕ → CsvState → CsvState → List ℕ → Type 0
Like q v w [] = is_inside v ≡ is_inside w
Like q v w (b ∷ text) = (is_inside v ≡ is_inside w) × Like q (after_byte q v b) (after_byte q w b) text

like-same : (q : Option ℕ) (w : CsvState) (text : List ℕ) → Like q w w text
like-same q w [] = refl
like-same q w (b ∷ text) = (refl, like-same q (after_byte q w b) text)

like-none : (v w : CsvState) (text : List ℕ) → is_inside v ≡ is_inside w → Like None v w text
like-none v w [] same = same
like-none v w (b ∷ text) same = (same, like-none v w text same)

like-but : (q : Option ℕ) (text : List ℕ) (is : Bool) (u v w : CsvState) → Like q v w text
    → Like q (if is then u else v) (if is then u else w) text
like-but q text true u v w like = like-same q u text
like-but q text false u v w like = like

-- the start of an input and that of a record, where no mark is
module _ (d : ℕ) where
  like-marked : (n : ℕ) (next : CsvState) (b : ℕ) (text : List ℕ) → (b ≡ n → Like (Some d) next Bare text)
      → Like (Some d) (after_bare d (if b == n then next else Bare) b) (after_bare d Bare b) text
  like-marked n next b text marked =
      like-but (Some d) text (b == d) Start _ Bare (elim (cases_Bool (b == n)) [
        | inl is ↦ rw is (marked (eqb-true b n is))
        | inr is
            ↦ rw is (like-same (Some d) Bare text)
      ])

  like-third : (text : List ℕ) → starts_with nat_eq text (191 ∷ []) ≡ false → Like (Some d) Mark2 Bare text
  like-third [] plain = refl
  like-third (b ∷ text) plain = (refl, like-marked 191 Start b text (λ is. let never : true ≡ false = rw is at plain in absurd (cc)))

  like-second : (text : List ℕ) → starts_with nat_eq text (187 ∷ 191 ∷ []) ≡ false → Like (Some d) Mark1 Bare text
  like-second [] plain = refl
  like-second (b ∷ text) plain = (refl, like-marked 187 Mark2 b text (λ is. like-third text (rw is at plain)))

like-start : (q : Option ℕ) (text : List ℕ) → begins_with_mark text ≡ false → Like q Mark Start text
like-start None text plain = like-none Mark Start text refl
like-start (Some d) [] plain = refl
like-start (Some d) (b ∷ text) plain =
    (refl, like-but (Some d) text (is_quote b) Quoted _ _ (like-marked d 239 Mark1 b text (λ is. like-second d text (rw is at plain))))

like-split : (q : Option ℕ) (e : ℕ) (v w : CsvState) (text : List ℕ) → Like q v w text → split_at q e v text ≡ split_at q e w text
like-split q e v w [] like = refl
like-split q e v w (b ∷ text) like = rw (like.0, like-split q e (after_byte q v b) (after_byte q w b) text like.1) refl

like-inside : (q : Option ℕ) (v w : CsvState) (text : List ℕ) → Like q v w text
    → is_inside (after_text q v text) ≡ is_inside (after_text q w text)
like-inside q v w [] like = like
like-inside q v w (b ∷ text) like = like-inside q (after_byte q v b) (after_byte q w b) text like.1

-- an input that begins with no mark, and a record that does not
pub split-plain : (q : Option ℕ) (e : ℕ) (text : List ℕ) → begins_with_mark text ≡ false → split_at q e Mark text ≡ split_at q e Start text
split-plain q e text plain = like-split q e Mark Start text (like-start q text plain)

pub open-plain : (q : Option ℕ) (n : ℕ) (text : List ℕ) → (n ≡ 1 → begins_with_mark text ≡ false)
    → is_open q n text ≡ is_inside (after_text q Start text)
open-plain q n text plain =
    like-inside q (record_start n) Start text (elim (cases_Bool (n == 1)) [
      | inl is ↦ rw is (like-start q text (plain (eqb-true n 1 is)))
      | inr is ↦ rw is (like-same q Start text)
    ])

-- a record after another
pub start-next : (n : ℕ) → 0 < n → record_start (next_line n) ≡ Start
start-next n some = rw (false_from_ne_true (next_line n == 1) (λ yes. let one = eqb-true (next_line n) 1 yes
    in omega (arith, some, one))) refl

-- a byte that ends a part
outside-parts : (same inside : Bool) → (same && not inside) ≡ true → (same ≡ true) × (inside ≡ false)
outside-parts true false is = (refl, refl)
outside-parts true true is = absurd (cc)
outside-parts false inside is = absurd (cc)

-- parts with one byte more before them
first-some : (b : ℕ) (parts : List (List ℕ)) → 0 < length (onto_first b parts)
first-some b [] = omega arith
first-some b (part ∷ parts) = omega arith

onto-append : (b : ℕ) (xs ys : List (List ℕ)) → 0 < length xs → onto_first b (xs ++ ys) ≡ onto_first b xs ++ ys
onto-append b [] ys some = absurd (omega arith)
onto-append b (x ∷ xs) ys some = refl

module _ (q : Option ℕ) (e : ℕ) where
  joined-onto : (b : ℕ) (parts : List (List ℕ)) → 0 < length parts → join_with_byte e (onto_first b parts) ≡ b ∷ join_with_byte e parts
  joined-onto b [] some = absurd (omega arith)
  joined-onto b (part ∷ []) some = refl
  joined-onto b (part ∷ next ∷ parts) some = refl

  joined-next : (parts : List (List ℕ)) → 0 < length parts → join_with_byte e ([] ∷ parts) ≡ e ∷ join_with_byte e parts
  joined-next [] some = absurd (omega arith)
  joined-next (part ∷ parts) some = refl

  -- whether a byte ends a part
  abbrev ends : CsvState → ℕ → Bool
  ends w b = (b == e) && not (is_inside w)

  -- there is a part
  pub split-some : (w : CsvState) (text : List ℕ) → 0 < length (split_at q e w text)
  split-some w [] = omega arith
  split-some w (b ∷ text) = either (λ (parts : List (List ℕ)). 0 < length parts) (ends w b) _ _ (omega arith)
      (first-some b (split_at q e (after_byte q w b) text))

  -- the parts, joined again, are the text
  pub split-joined : (w : CsvState) (text : List ℕ) → join_with_byte e (split_at q e w text) ≡ text
  split-joined w [] = refl
  split-joined w (b ∷ text) =
      elim (cases_Bool (ends w b)) [
        | inl is ↦
            let same : b ≡ e = eqb-true b e (outside-parts (b == e) (is_inside w) is).0 in
            rw is (joined-next (split_at q e Start text) (split-some Start text) ∙ ap (λ l. e ∷ l) (split-joined Start text)
            ∙ ap (λ c. c ∷ text) (sym same))
        | inr is ↦ rw is (joined-onto b (split_at q e (after_byte q w b) text) (split-some (after_byte q w b) text)
            ∙ ap (λ l. b ∷ l) (split-joined (after_byte q w b) text))
      ]

  -- a text that no part ends in
  pub end-append : (w : CsvState) (xs ys : List ℕ) → HasNoEnd q e w xs → HasNoEnd q e (after_text q w xs) ys → HasNoEnd q e w (xs ++ ys)
  end-append w [] ys none after = after
  end-append w (b ∷ xs) ys none after =
      let parts = or_parts (ends w b) (has_end q e (after_byte q w b) xs) none in
      or_from _ _ parts.0 (end-append (after_byte q w b) xs ys parts.1 after)

  pub split-none : (w : CsvState) (xs : List ℕ) → HasNoEnd q e w xs → split_at q e w xs ≡ xs ∷ []
  split-none w [] none = refl
  split-none w (b ∷ xs) none =
      let parts = or_parts (ends w b) (has_end q e (after_byte q w b) xs) none in
      rw parts.0 (ap (onto_first b) (split-none (after_byte q w b) xs parts.1))

  ended-here : (w : CsvState) (ys : List ℕ) → is_inside w ≡ false → split_at q e w (e ∷ ys) ≡ [] ∷ split_at q e Start ys
  ended-here w ys outside = rw (eq-eqb e e refl, outside) refl

  pub split-first : (w : CsvState) (xs ys : List ℕ) → IsRecord q e w xs → split_at q e w (xs ++ e ∷ ys) ≡ xs ∷ split_at q e Start ys
  split-first w [] ys is = ended-here w ys is.1
  split-first w (b ∷ xs) ys is =
      let parts = or_parts (ends w b) (has_end q e (after_byte q w b) xs) is.0 in
      rw parts.0 (ap (onto_first b) (split-first (after_byte q w b) xs ys (parts.1, is.1)))

  -- several records
  pub split-append : (w : CsvState) (front back : List ℕ) → is_inside (fold (after_record_byte q e) w front) ≡ false →
      split_at q e w (front ++ e ∷ back) ≡ split_at q e w front ++ split_at q e Start back
  split-append w [] back outside = ended-here w back outside
  split-append w (b ∷ front) back outside =
      elim (cases_Bool (ends w b)) [
        | inl is ↦ rw is (ap (λ l. [] ∷ l) (split-append Start front back (rw is at outside)))
        | inr is ↦ rw is (ap (onto_first b) (split-append (after_byte q w b) front back (rw is at outside))
            ∙ onto-append b (split_at q e (after_byte q w b) front) (split_at q e Start back) (split-some (after_byte q w b) front))
      ]

  -- a text without bytes that a search for this one stops at
  module _ (stops : ℕ → Bool) (other : (b : ℕ) → stops b ≡ false → (b == e) ≡ false) where
    end-plain : (w : CsvState) (text : List ℕ) (n : ℕ) → Nowhere (Passes stops text) 0 n → HasNoEnd q e w (take n text)
    end-plain w text zero none = refl
    end-plain w [] (suc n) none = refl
    end-plain w (b ∷ text) (suc n) none =
        let plain = other b (false_from_ne_true _ (none 0 (omega arith) (omega arith))) in
        or_from _ _ (ap (λ same. same && not (is_inside w)) plain) (end-plain (after_byte q w b) text n
        (λ k above low. none (suc k) (omega arith) (omega (arith, low))))

    Searched-to : {w after : CsvState} {text : List ℕ} {n : ℕ} (found : Option ℕ) → IsFirstByte stops text found
        → n ≡ unwrap_or found (length text) → after ≡ after_text q w (take n text) →
        Searched q e w text n after
    Searched-to {w} {after} {text} {n} None is same there = record {
      inside = omega (arith, same);
      none = rw same (end-plain w text (length text) is);
      there = there;
    }
    Searched-to {w} {after} {text} {n} (Some k) is same there =
        let low = is.0.high in
        record { inside = omega (arith, same, low); none = rw same (end-plain w text k is.0.before); there = there }

-- a text where there are no quotes
pub Searched-unquoted : (q : Option ℕ) (e : ℕ) (w : CsvState) (text : List ℕ) (n : ℕ) (found : Option ℕ) → q ≡ None
    → IsFirstByte (is_byte e) text found → n ≡ unwrap_or found (length text) → Searched q e w text n w
Searched-unquoted q e w text n found none is same = Searched-to q e (is_byte e) (λ b other. other) found is same
    (rw none (after-none w (take n text)))

-- where the first bytes of a text end: at its end, or before a byte that ends a part
abbrev pub Ends : Option ℕ → ℕ → CsvState → List ℕ → ℕ → CsvState → Type 0
Ends q e w text n here = Searched q e w text n here × (n < length text → (get_or text n 0 ≡ e) × (is_inside here ≡ false))

pub Ends-same : {p q : Option ℕ} {e : ℕ} {w here : CsvState} {rest text : List ℕ} {n : ℕ} → p ≡ q → rest ≡ text → Ends p e w rest n here
    → Ends q e w text n here
Ends-same {p} {q} {e} {w} {here} {rest} {text} {n} same is ends = subst (λ o. Ends o e w text n here) same
    (subst (λ l. Ends p e w l n here) is ends)

module _ {q : Option ℕ} {e : ℕ} {w here : CsvState} {text : List ℕ} {n : ℕ} (so_far : Searched q e w text n here) where
  pub Searched-all : length text ≤ n → HasNoEnd q e w text
  Searched-all all = subst (HasNoEnd q e w) (take_all n text all) so_far.none

  -- the bytes after them are searched too
  Searched-on : {m : ℕ} {after : CsvState} → Searched q e here (drop n text) m after → Searched q e w text (n + m) after
  Searched-on {m} {after} more =
      let sum = take-add n m text in
      record {
        inside = omega (arith, length-drop n text);
        none = rw sum (end-append q e w (take n text) (take m (drop n text)) so_far.none
            (subst (λ v. HasNoEnd q e v (take m (drop n text))) so_far.there more.none));
        there = more.there ∙ ap (λ v. after_text q v (take m (drop n text))) so_far.there
            ∙ sym (fold-append (after_byte q) w (take n text) (take m (drop n text))) ∙ ap (after_text q w) (sym sum);
      }

  pub Searched-search : {m : ℕ} {after : CsvState} (found : Option ℕ) → IsFirstByte (is_byte2 34 e) (slice_range text n (length text)) found
      → m ≡ unwrap_or found (length (slice_range text n (length text))) →
      after ≡ after_text q here (take m (slice_range text n (length text))) → Searched q e w text (n + m) after
  Searched-search {m} {after} found is same there =
      Searched-on (subst (λ l. Searched q e here l m after) (take_rest text n)
      (Searched-to q e (is_byte2 34 e) (λ b plain. (or_parts (b == 34) (b == e) plain).1) found is same there))

  pub Ends-on : {m : ℕ} {after : CsvState} → Ends q e here (drop n text) m after → Ends q e w text (n + m) after
  Ends-on {m} {after} ends = (
    Searched-on ends.0,
    λ low. let found = ends.1 (omega (arith, low, length-drop n text))
        in (sym (get_or-drop n text m 0) ∙ found.0, found.1),
  )

  -- and so is the next byte
  pub Searched-byte : n < length text → ((get_or text n 0 == e) && not (is_inside here)) ≡ false
      → Searched q e w text (n + 1) (after_byte q here (get_or text n 0))
  Searched-byte low plain =
      let more = take_more text n 0 low in
      let b = get_or text n 0 in
      record {
        inside = omega (arith, low);
        none = rw more (end-append q e w (take n text) (b ∷ []) so_far.none
            (or_from _ _ (ap (λ v. (b == e) && not (is_inside v)) (sym so_far.there) ∙ plain) refl));
        there = ap (λ v. after_byte q v b) so_far.there ∙ sym (fold-append (after_byte q) w (take n text) (b ∷ []))
            ∙ ap (after_text q w) (sym more);
      }

  -- and more bytes follow
  pub Searched-longer : (more : List ℕ) → Searched q e w (text ++ more) n here
  Searched-longer more =
      let same = take-append-le n text more so_far.inside in
      record {
        inside = omega (arith, length-append text more);
        none = ap (has_end q e w) same ∙ so_far.none;
        there = so_far.there ∙ ap (after_text q w) (sym same);
      }

-- a text, by the part before its first end
module _ {q : Option ℕ} {e : ℕ} {w here : CsvState} {text : List ℕ} {n : ℕ} (ends : Ends q e w text n here) (low : n < length text) where
  pub Ends-parts : text ≡ take n text ++ e ∷ drop (n + 1) text
  Ends-parts = sym (take-append-drop n text) ∙ ap (λ l. take n text ++ l) (drop_more text n 0 low
      ∙ ap (λ b. b ∷ drop (n + 1) text) (ends.1 low).0)

  pub Ends-record : IsRecord q e w (take n text)
  Ends-record = (ends.0.none, ap is_inside (sym ends.0.there) ∙ (ends.1 low).1)

-- the part of a text that begins at `start`, by where a search from there ends
module _ {q : Option ℕ} {e : ℕ} {here : CsvState} (text : List ℕ) (start at : ℕ) (ends : Ends q e Start (drop start text) at here) where
  abbrev rest : List ℕ
  rest = drop start text

  len : start + at - start ≡ at
  len = omega arith

  pub split-next : start + at < length text → split_at q e Start rest
      ≡ slice_range text start (start + at) ∷ split_at q e Start (drop (start + at + 1) text)
  split-next low =
      let inside : at < length rest = omega (arith, low, length-drop start text) in
      let sum : start + (at + 1) ≡ start + at + 1 = omega arith in
      ap (split_at q e Start) (Ends-parts ends inside) ∙ split-first q e Start (take at rest) (drop (at + 1) rest) (Ends-record ends inside)
      ∙ ap (λ n. take n rest ∷ split_at q e Start (drop (at + 1) rest)) (sym len)
      ∙ ap (λ l. slice_range text start (start + at) ∷ split_at q e Start l) (drop-drop (at + 1) start text ∙ ap (λ n. drop n text) sum)

  pub split-last : start + at ≡ length text → split_at q e Start rest ≡ slice_range text start (start + at) ∷ []
  split-last last =
      let all : length rest ≤ at = omega (arith, last, length-drop start text) in
      split-none q e Start rest (Searched-all ends.0 all) ∙ ap (λ l. l ∷ []) (sym (take_all at rest all) ∙ ap (λ n. take n rest) (sym len))

-- the number of the line in which two parts of a record end
ended-append : (q : Option ℕ) (e : ℕ) (xs ys : List ℕ) → lines_ended q e (xs ++ ys) ≡ lines_ended q e xs + lines_ended q e ys
ended-append None e xs ys = refl
ended-append (Some d) e xs ys = sum_by-append (λ b. cond (b == e) 1 0) xs ys

pub reached-append : (q : Option ℕ) (e n : ℕ) (xs ys : List ℕ) → line_reached q e (line_reached q e n xs) ys ≡ line_reached q e n (xs ++ ys)
reached-append q e n xs ys = let sum = ended-append q e xs ys in omega (arith, sum)
