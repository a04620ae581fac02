-- Where records and their fields end, byte after byte.
use Rattle.regroup_core.proofs.Common.{ℕ, ◌+◌, ◌-◌, ◌<◌, ◌≤◌, ◌==◌, ◌≡◌, Bool, true, false, ◌&&◌, not, cond, if◌then◌else◌, List, [], ◌∷◌}
use Rattle.regroup_core.proofs.Common.{◌++◌, length, take, drop, get_or, slice_range, suc, zero, Option, Some, None, refl, sym, ap, subst}
use Rattle.regroup_core.proofs.Common.{◌∙◌, arith, eq-eqb, All, or_from, or_parts}
use Rattle.regroup_core.proofs.Common.{length-drop, take_more, take_rest, false_from_ne_true}
use Rattle.regroup_core.proofs.Common.{fold-append, take-add, unwrap_or, option_map, nat_lt, is_quote, is_inside, is_end, after_bare}
use Rattle.regroup_core.proofs.Common.{after_byte, after_text, end_at, end_of, has_end, Searched, Within, Start, ends_in, is_some, ◌||◌}
use Rattle.regroup_core.proofs.Common.{sum_by-append}
use Rattle.memchr.specs.Find.{IsFirstByte, Nowhere, Passes, is_byte, is_byte2}
use Rattle.regroup_core.specs.declared.record.Within.TheVariants.{Bare, Quoted}

pub and_false : (x y : Bool) → y ≡ false → (x && y) ≡ false
and_false x y past = grind arith

-- what follows a text where there are no quotes
after-none : (w : Within) (text : List ℕ) → w ≡ after_text None w text
after-none w [] = refl
after-none w (b ∷ text) = after-none w text

-- what follows a text without quotes: in a field and outside quotes its last byte tells, and inside quotes it ends nothing
abbrev Unquoted : List ℕ → Type 0
Unquoted text = All (λ b. is_quote b ≡ false) text

bare-outside : (d b : ℕ) → is_inside (after_bare d b) ≡ false
bare-outside d b = grind arith

after-unquoted : (d b : ℕ) (w : Within) → is_inside w ≡ false → is_quote b ≡ false → after_byte (Some d) w b ≡ after_bare d b
after-unquoted d b Start outside plain = rw plain refl
after-unquoted d b Bare outside plain = refl
after-unquoted d b Quoted outside plain = absurd (cc)

pub after-last : (q : Option ℕ) (w : Within) (text : List ℕ) → is_inside w ≡ false → 1 ≤ length text → Unquoted text
    → after_byte q w (get_or text (length text - 1) 0) ≡ after_text q w text
after-last None w text outside some plain = after-none w text
after-last (Some d) w [] outside some plain = absurd (omega arith)
after-last (Some d) w (b ∷ []) outside some plain = refl
after-last (Some d) w (b ∷ c ∷ text) outside some plain =
    let last : length (b ∷ c ∷ text) - 1 ≡ suc (length (c ∷ text) - 1) = omega arith in
    let here = plain (suc (length (c ∷ text) - 1)) 0 (omega arith) in
    let first = after-unquoted d b w outside (plain 0 b (omega arith)) in
    let next = ap is_inside first ∙ bare-outside d b in
    ap (λ n. after_byte (Some d) w (get_or (b ∷ c ∷ text) n 0)) last ∙ after-unquoted d _ w outside here
    ∙ sym (after-unquoted d _ (after_byte (Some d) w b) next here)
    ∙ after-last (Some d) (after_byte (Some d) w b) (c ∷ text) next (omega arith) (λ k x low. plain (suc k) x (omega (arith, low)))

pub after-quoted : (q : Option ℕ) (w : Within) (text : List ℕ) → is_inside w ≡ true → Unquoted text → w ≡ after_text q w text
after-quoted None w text inside plain = after-none w text
after-quoted (Some d) Quoted [] inside plain = refl
after-quoted (Some d) Quoted (b ∷ text) inside plain =
    let first : is_quote b ≡ false = plain 0 b (omega arith) in
    rw first (after-quoted (Some d) Quoted text refl (λ k x low. plain (suc k) x (omega (arith, low))))
after-quoted (Some d) Start text inside plain = absurd (cc)
after-quoted (Some d) Bare text inside plain = absurd (cc)

module _ (q : Option ℕ) (e : ℕ) where
  -- a text that no part ends in
  pub end-append : (w : Within) (xs ys : List ℕ) → has_end q e w xs ≡ false → has_end q e (after_text q w xs) ys ≡ false
      → has_end q e w (xs ++ ys) ≡ false
  end-append w [] ys none after = after
  end-append w (b ∷ xs) ys none after =
      let parts = or_parts (is_end e w b) (has_end q e (after_byte q w b) xs) none in
      or_from _ _ parts.0 (end-append (after_byte q w b) xs ys parts.1 after)

  -- a text without bytes that a search for this one stops at
  module _ (stops : ℕ → Bool) (other : (b : ℕ) → stops b ≡ false → (b == e) ≡ false) where
    end-plain : (w : Within) (text : List ℕ) (n : ℕ) → Nowhere (Passes stops text) 0 n → has_end q e w (take n text) ≡ false
    end-plain w text zero none = refl
    end-plain w [] (suc n) none = refl
    end-plain w (b ∷ text) (suc n) none =
        let plain = other b (false_from_ne_true _ (none 0 (omega arith) (omega arith))) in
        or_from _ _ (ap (λ same. same && not (is_inside w)) plain) (end-plain (after_byte q w b) text n
        (λ k above low. none (suc k) (omega arith) (omega (arith, low))))

    Searched-to : {w after : Within} {text : List ℕ} {n : ℕ} (found : Option ℕ) → IsFirstByte stops text found
        → n ≡ unwrap_or found (length text) → after ≡ after_text q w (take n text) →
        Searched q e w text n after
    Searched-to {w} {after} {text} {n} None is same there = record {
      inside = omega (arith, same);
      none = rw same (end-plain w text (length text) is);
      there = there;
    }
    Searched-to {w} {after} {text} {n} (Some k) is same there =
        let low = is.0.high in
        record { inside = omega (arith, same, low); none = rw same (end-plain w text k is.0.before); there = there }

-- a text where there are no quotes
pub Searched-unquoted : (q : Option ℕ) (e : ℕ) (w : Within) (text : List ℕ) (n : ℕ) (found : Option ℕ) → q ≡ None
    → IsFirstByte (is_byte e) text found → n ≡ unwrap_or found (length text) → Searched q e w text n w
Searched-unquoted q e w text n found none is same = Searched-to q e (is_byte e) (λ b other. other) found is same
    (rw none (after-none w (take n text)))

module _ {q : Option ℕ} {e : ℕ} {w here : Within} {text : List ℕ} {n : ℕ} (so_far : Searched q e w text n here) where
  -- the bytes after them are searched too
  Searched-on : {m : ℕ} {after : Within} → Searched q e here (drop n text) m after → Searched q e w text (n + m) after
  Searched-on {m} {after} more =
      let sum = take-add n m text in
      record {
        inside = omega (arith, length-drop n text);
        none = rw sum (end-append q e w (take n text) (take m (drop n text)) so_far.none
            (subst (λ v. has_end q e v (take m (drop n text)) ≡ false) so_far.there more.none));
        there = more.there ∙ ap (λ v. after_text q v (take m (drop n text))) so_far.there
            ∙ sym (fold-append (after_byte q) w (take n text) (take m (drop n text))) ∙ ap (after_text q w) (sym sum);
      }

  pub Searched-search : {m : ℕ} {after : Within} (found : Option ℕ) → IsFirstByte (is_byte2 34 e) (slice_range text n (length text)) found
      → m ≡ unwrap_or found (length (slice_range text n (length text))) →
      after ≡ after_text q here (take m (slice_range text n (length text))) → Searched q e w text (n + m) after
  Searched-search {m} {after} found is same there =
      Searched-on (subst (λ l. Searched q e here l m after) (take_rest text n)
      (Searched-to q e (is_byte2 34 e) (λ b plain. (or_parts (b == 34) (b == e) plain).1) found is same there))

  -- and so is the next byte
  pub Searched-byte : n < length text → is_end e here (get_or text n 0) ≡ false
      → Searched q e w text (n + 1) (after_byte q here (get_or text n 0))
  Searched-byte low plain =
      let more = take_more text n 0 low in
      let b = get_or text n 0 in
      record {
        inside = omega (arith, low);
        none = rw more (end-append q e w (take n text) (b ∷ []) so_far.none
            (or_from _ _ (ap (λ v. is_end e v b) (sym so_far.there) ∙ plain) refl));
        there = ap (λ v. after_byte q v b) so_far.there ∙ sym (fold-append (after_byte q) w (take n text) (b ∷ []))
            ∙ ap (after_text q w) (sym more);
      }

pub end-none : (n : ℕ) (text : List ℕ) → length text ≤ n → end_at n text ≡ None
end-none n text all = grind arith

pub end-here : (n : ℕ) (text : List ℕ) → n < length text → end_at n text ≡ Some n
end-here n text low = grind arith

-- where a text ends, by a search
module _ (q : Option ℕ) (e : ℕ) where
  abbrev Stops : Within → List ℕ → ℕ → Type 0
  Stops w text n = n < length text → (get_or text n 0 ≡ e) × (is_inside (after_text q w (take n text)) ≡ false)

  lt_never : (n : ℕ) → nat_lt n 0 ≡ false
  lt_never n = grind arith

  later : (n m : ℕ) → option_map (λ k. suc k) (if nat_lt n m then Some n else None)
      ≡ (if nat_lt (suc n) (suc m) then Some (suc n) else None)
  later n m = grind arith

  end-is : (w : Within) (text : List ℕ) (n : ℕ) → n ≤ length text → has_end q e w (take n text) ≡ false → Stops w text n
      → end_of q e w text ≡ end_at n text
  end-is w [] n low none stops = let past = lt_never n in rw past refl
  end-is w (b ∷ text) zero low none stops =
      let found = stops (omega arith) in
      rw (eq-eqb b e found.0, found.1) (sym (end-here 0 (b ∷ text) (omega arith)))
  end-is w (b ∷ text) (suc n) low none stops =
      let parts = or_parts (is_end e w b) (has_end q e (after_byte q w b) (take n text)) none in
      rw parts.0 (ap (option_map (λ k. suc k)) (end-is (after_byte q w b) text n (omega (arith, low)) parts.1
      (λ below. stops (omega (arith, below)))) ∙ later n (length text))

pub end-searched : {q : Option ℕ} {e : ℕ} {w here : Within} {text : List ℕ} {n : ℕ} → Searched q e w text n here
    → (n < length text → (get_or text n 0 ≡ e) × (is_inside here ≡ false)) → end_of q e w text ≡ end_at n text
end-searched {q} {e} {w} {here} {text} {n} so_far found =
    end-is q e w text n so_far.inside so_far.none (λ low. let there = found low in (there.0, ap is_inside (sym so_far.there) ∙ there.1))

other_byte : (same inside : Bool) → inside ≡ false → (same && not inside) ≡ false → same ≡ false
other_byte same inside outside plain = grind arith

-- where no byte is in quotes, a part has no line end
ends-none : (q : Option ℕ) (e : ℕ) (w : Within) (text : List ℕ) → q ≡ None → is_inside w ≡ false → has_end q e w text ≡ false
    → ends_in e text ≡ 0
ends-none None e w [] none outside plain = refl
ends-none None e w (b ∷ text) none outside plain =
    let parts = or_parts (is_end e w b) (has_end None e w text) plain in
    let other = other_byte (b == e) (is_inside w) outside parts.0 in
    rw other (ends-none None e w text none outside parts.1)
ends-none (Some d) e w text none outside plain = absurd (cc)

pub ends-bare : (q : Option ℕ) (e : ℕ) (w here : Within) (text : List ℕ) (n : ℕ) → (is_some q || is_inside w) ≡ false
    → Searched q e w text n here → ends_in e (take n text) ≡ 0
ends-bare q e w here text n bare so_far =
    let parts = or_parts (is_some q) (is_inside w) bare in
    ends-none q e w (take n text) (is_none q parts.0) parts.1 so_far.none
  where
    is_none : (q : Option ℕ) → is_some q ≡ false → q ≡ None
    is_none None none = refl
    is_none (Some d) none = absurd (cc)

-- the line ends of a record, and the one that ends it
pub ends-one : (e : ℕ) (text : List ℕ) (n : ℕ) → n < length text → get_or text n 0 ≡ e → ends_in e (take n text) + 1
    ≡ ends_in e (take (n + 1) text)
ends-one e text n low is =
    let more = take_more text n 0 low in
    let one : ends_in e (get_or text n 0 ∷ []) ≡ 1 = rw (eq-eqb (get_or text n 0) e is) refl in
    sym (ap (ends_in e) more ∙ sum_by-append (λ b. cond (b == e) 1 0) (take n text) (get_or text n 0 ∷ [])
    ∙ ap (λ k. ends_in e (take n text) + k) one)
