-- Fields that may be in quotes.
use Rattle.regroup_lines.proofs.Common.{Appends, doubled, list_any, nat_eq, List, Option, StopsWithin, StopsWithin_prefix}
use Rattle.regroup_lines.proofs.Common.{StopsWithin_suffix, [], ap, arith, drop, drop-drop, drop_more, false, flat_map, flat_map-append}
use Rattle.regroup_lines.proofs.Common.{get_or, is_opened, is_quote, length, length-drop, ne_eqb, quoted_len, refl, slice_range, subst}
use Rattle.regroup_lines.proofs.Common.{sym, take, take-append-drop, take_rest, true, ℕ, take_all, drop_all, append-nil, Decides-ltb}
use Rattle.regroup_lines.proofs.Common.{if◌then◌else◌, Some, Bool, nat_lt, passed_as, ◌&&◌, ◌-◌, ◌==◌, ◌++◌, ◌+◌, ◌<◌, ◌∙◌, ◌∷◌, ◌≡◌, ◌≢◌}
use Rattle.regroup_lines.proofs.Common.{◌≤◌}
use Rattle.std.specs.List.{slice_index}
use Rattle.std.proofs.lemmas.List.Folds.{list_any_at}
use Rattle.regroup_lines.specs.Adding.{Adds}
use Rattle.regroup_lines.specs.Csv.{is_bare, needs_quotes}
use Rattle.regroup_lines.specs.Ended.{len_without}
use Rattle.regroup_lines.specs.declared.rules.Output.{Output}

-- how many bytes from a place on are before the quote that closes the field, by the next byte
module _ (text : List ℕ) (at : ℕ) (low : at < length text) (so_far : quoted_len text ≡ at + quoted_len (drop at text)) where
  cut : drop at text ≡ get_or text at 0 ∷ drop (at + 1) text
  cut = drop_more text at 0 low

  pub quoted-plain : get_or text at 0 ≢ 34 → quoted_len text ≡ at + 1 + quoted_len (drop (at + 1) text)
  quoted-plain other = let next = ap quoted_len cut ∙ by (drop (at + 1) text) in omega (arith, so_far, next)
    where
      by : (rest : List ℕ) → quoted_len (get_or text at 0 ∷ rest) ≡ 1 + quoted_len rest
      by [] = rw (ne_eqb (get_or text at 0) 34 other) refl
      by (c ∷ rest) = rw (ne_eqb (get_or text at 0) 34 other) refl

  pub quoted-closed : get_or text at 0 ≡ 34 → is_opened (slice_range text (at + 1) (length text)) ≡ false → at ≡ quoted_len text
  quoted-closed closes other =
      let none = ap quoted_len cut ∙ by (drop (at + 1) text) (sym (ap is_opened (take_rest text (at + 1))) ∙ other) in
      omega (arith, so_far, none)
    where
      by : (rest : List ℕ) → is_opened rest ≡ false → quoted_len (get_or text at 0 ∷ rest) ≡ 0
      by [] other = rw closes refl
      by (c ∷ rest) other = rw (closes, other) refl

  pub quoted-pair : get_or text at 0 ≡ 34 → is_opened (slice_range text (at + 1) (length text)) ≡ true
      → (at + 2 ≤ length text) × (quoted_len text ≡ at + 2 + quoted_len (drop (at + 2) text))
  quoted-pair first second =
      let sum : at + 1 + 1 ≡ at + 2 = omega arith in
      let len = length-drop (at + 1) text in
      let pair = by (drop (at + 1) text) (sym (ap is_opened (take_rest text (at + 1))) ∙ second) in
      let next = ap quoted_len cut ∙ pair.1 ∙ ap (λ l. 2 + quoted_len l) (drop-drop 1 (at + 1) text ∙ ap (λ n. drop n text) sum) in
      let some = pair.0 in
      (omega (arith, some, len), omega (arith, so_far, next))
    where
      by : (rest : List ℕ) → is_opened rest ≡ true → (1 ≤ length rest) × (quoted_len (get_or text at 0 ∷ rest)
          ≡ 2 + quoted_len (drop 1 rest))
      by [] opened = absurd (cc)
      by (c ∷ rest) opened = (omega arith, rw (first, opened) refl)

-- parts of a text, of which one is not all sent
pub parts-unsent : {X : Type 0} (f : X → List ℕ) (parts : List X) (i : ℕ) (x : X) (a b c : Option (List ℕ)) → i < length parts
    → Appends a b (flat_map f (take i parts)) →
    StopsWithin b c (f (get_or parts i x)) → StopsWithin a c (flat_map f parts)
parts-unsent f parts i x a b c low sent stops =
    let cut : flat_map f (take i parts) ++ (f (get_or parts i x) ++ flat_map f (drop (i + 1) parts)) ≡ flat_map f parts =
    sym (flat_map-append f (take i parts) (get_or parts i x ∷ drop (i + 1) parts))
    ∙ ap (λ l. flat_map f (take i parts ++ l)) (sym (drop_more parts i x low)) ∙ ap (flat_map f) (take-append-drop i parts) in
    subst (StopsWithin a c) cut
    (StopsWithin_suffix a b c (flat_map f (take i parts)) _ sent (StopsWithin_prefix b c (f (get_or parts i x))
    (flat_map f (drop (i + 1) parts)) stops))

-- a text without quotes
doubled-none : (text : List ℕ) → list_any is_quote text ≡ false → doubled text ≡ text
doubled-none [] none = refl
doubled-none (b ∷ text) none = grind (arith, doubled-none text)

pub unquoted : (text : List ℕ) (a b : Option (List ℕ)) → list_any (λ c. nat_eq c 34) text ≡ false → Adds a b text → Adds a b (doubled text)
unquoted text a b none adds = subst (Adds a b) (sym (doubled-none text none)) adds

-- a field that needs no quotes is written as it is
module _ (output : Output) (e : ℕ) where
  abbrev needs : ℕ → Bool
  needs = needs_quotes output.delimiter e

  not_opened : (field : List ℕ) → list_any needs field ≡ false → is_opened field ≡ false
  not_opened [] none = refl
  not_opened (b ∷ field) none = grind arith

  not_quoted : (field : List ℕ) → list_any needs field ≡ false → list_any is_quote field ≡ false
  not_quoted [] none = refl
  not_quoted (b ∷ field) none = grind (arith, not_quoted field)

  not_returned : (field : List ℕ) → list_any needs field ≡ false → len_without 13 field ≡ length field
  not_returned field none = by (nat_lt 0 (length field)) (slice_index field (length field - 1) == 13) refl refl
    where
      by : (some is : Bool) → nat_lt 0 (length field) ≡ some → (slice_index field (length field - 1) == 13) ≡ is
          → (if some && is then length field - 1 else length field) ≡ length field
      by false is low last = refl
      by true false low last = refl
      by true true low last =
          let below : 0 < length field = (Decides-ltb 0 (length field)).0 low in
          let any = list_any_at needs field (length field - 1) 0 (omega (arith, below)) (grind (arith, last)) in
          absurd (cc)

  pub unneeded : (quotes : Bool) (field : List ℕ) → is_bare output.quoting ≡ false → list_any needs field ≡ false
      → passed_as (Some output) quotes e field ≡ field
  unneeded quotes field around none =
      rw (
        around,
        not_opened field none,
        and_none quotes,
        not_returned field none,
        take_all (length field) field (omega arith),
        none,
        doubled-none field (not_quoted field none),
        drop_all (length field) field (omega arith),
      ) (append-nil field)
    where
      and_none : (x : Bool) → (x && false) ≡ false
      and_none true = refl
      and_none false = refl
