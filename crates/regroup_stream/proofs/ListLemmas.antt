-- The ranges that a list names.
use Rattle.std.proofs.Common.{Bool, Err, List, None, Ok, Option, Result, Some, [], ap, append-nil, append_assoc, arith, drop, false, get_or}
use Rattle.std.proofs.Common.{if◌then◌else◌, length, refl, subst, sym, true, ℕ, ◌++◌, ◌+◌, ◌<◌, ◌^◌, ◌∙◌, ◌∷◌, ◌≡◌}
use Rattle.std.proofs.lemmas.Bool.Decides.{Decides-ltb}
use Rattle.regroup_lines.specs.declared.rules.FieldRange.{FieldRange}
use Rattle.std.specs.Prelude.{MatchOption, nat_lt, ◌&&◌}
use Rattle.std.specs.Result.{OkIff}
use Rattle.std.specs.List.{after_first, before_first, filter, list_all, position_or_len}
use Rattle.std.specs.Str.{all_ascii_digits}
use Rattle.regroup_stream.specs.Lists.{NAMED, counted, field_number, is_dash, is_name, part_range, range_between, ranges_in, with_range}
use Rattle.std.proofs.lemmas.List.{drop_all, drop_more}
use Rattle.std.proofs.lemmas.Bool.{false_from_ne_true}
use Rattle.std.specs.Char.{is_ascii_digit}
use Rattle.std.specs.Option.{option_map}
use Rattle.regroup_stream.specs.Lists.{range_in}
use Rattle.std.specs.Borrow.{Bor}
use Rattle.std.specs.Str.Parse.{ParsesUnsigned, digits_value}
use Rattle.std.proofs.lemmas.Str.Parse.{IsNumeralModel, numerals_by_value, parse_digits, tells_all_ascii_digits}
use Rattle.std.proofs.lemmas.Str.Pattern.{IsSplitOnceResult, split_once_first}

own : IsNumeralModel (λ ds. all_ascii_digits ds ≡ true) (digits_value 10)
own = numerals_by_value (λ ds. all_ascii_digits ds ≡ true) tells_all_ascii_digits

digits-same : (text : List ℕ) → all_ascii_digits text ≡ list_all is_ascii_digit text
digits-same [] = refl
digits-same (c ∷ text) = ap (λ b. is_ascii_digit c && b) (digits-same text)

module _ {E : Type 0} (text : List ℕ) (r : Result ℕ E) (parsed : ParsesUnsigned 64 10 text r) (digits : list_all is_ascii_digit text
    ≡ true) where
  read : OkIff r ((0 < length text) × (digits_value 10 text < 2 ^ 64)) (digits_value 10 text)
  read = parse_digits own 64 text r parsed (digits-same text ∙ digits)

  numbered : field_number text ≡ counted (digits_value 10 text)
  numbered = ap (λ b. if b then counted (digits_value 10 text) else None) digits

-- digits that parse
pub number-ok : {E : Type 0} (text : List ℕ) (n : ℕ) (r : Result ℕ E) → r ≡ Ok n → ParsesUnsigned 64 10 text r
    → list_all is_ascii_digit text ≡ true → counted n ≡ field_number text
number-ok {E} text n r is parsed digits =
    let found : OkIff {E = E} (Ok n) ((0 < length text) × (digits_value 10 text < 2 ^ 64)) (digits_value 10 text) =
    subst (λ r. OkIff r ((0 < length text) × (digits_value 10 text < 2 ^ 64)) (digits_value 10 text)) is (read text r parsed digits) in
    ap counted found.1 ∙ sym (numbered text r parsed digits)

-- digits that do not
counted-none : (n : ℕ) (some few : Bool) → nat_lt 0 n ≡ some → nat_lt n (2 ^ 64) ≡ few → (0 < n → n < 2 ^ 64 → ⊥)
    → (if some && few then Some n else None) ≡ None
counted-none n true true some few past = absurd (past ((Decides-ltb 0 n).0 some) ((Decides-ltb n (2 ^ 64)).0 few))
counted-none n true false some few past = refl
counted-none n false few some is past = refl

pub number-err : {E : Type 0} (text : List ℕ) (e : E) (r : Result ℕ E) → r ≡ Err e → ParsesUnsigned 64 10 text r
    → list_all is_ascii_digit text ≡ true → None ≡ field_number text
number-err text e r is parsed digits =
    let v = digits_value 10 text in
    let failed : ¬ ((0 < length text) × (v < 2 ^ 64)) = subst (λ r. OkIff r ((0 < length text) × (v < 2 ^ 64)) v) is
    (read text r parsed digits) in
    sym (numbered text r parsed digits
    ∙ counted-none v (nat_lt 0 v) (nat_lt v (2 ^ 64)) refl refl (λ some few.
    failed (let some_text : 0 < length text = over text some in some_text, few)))
  where
    over : (text : List ℕ) → 0 < digits_value 10 text → 0 < length text
    over [] some = absurd (omega arith)
    over (c ∷ text) some = omega arith

-- a part with no `-`, or with one
module _ (text : List ℕ) (r : Option (Bor (List ℕ) × Bor (List ℕ))) (split : IsSplitOnceResult 45 text r) where
  at : MatchOption r (position_or_len is_dash text ≡ length text)
      (λ x. (position_or_len is_dash text < length text) × (x.0.now ≡ before_first is_dash text) × (x.1.now ≡ after_first is_dash text))
  at = split_once_first 45 text r split (omega arith)

pub range-none : (text : List ℕ) (r : Option (Bor (List ℕ) × Bor (List ℕ))) → r ≡ None → IsSplitOnceResult 45 text r
    → range_in text ≡ range_between text text
unfolding range_in
range-none text r is split =
    let none : position_or_len is_dash text ≡ length text =
    subst (λ r. MatchOption r (position_or_len is_dash text ≡ length text)
    (λ x. (position_or_len is_dash text < length text) × (x.0.now ≡ before_first is_dash text) × (x.1.now ≡ after_first is_dash text))) is
    (at text r split) in
    let over : nat_lt (position_or_len is_dash text) (length text) ≡ false =
    false_from_ne_true _ (λ yes. let below = (Decides-ltb (position_or_len is_dash text) (length text)).0 yes
    in omega (arith, below, none)) in
    ap (λ b. if b then range_between (before_first is_dash text) (after_first is_dash text) else range_between text text) over

pub range-some : (text : List ℕ) (r : Option (Bor (List ℕ) × Bor (List ℕ))) (x : Bor (List ℕ) × Bor (List ℕ)) → r ≡ Some x
    → IsSplitOnceResult 45 text r →
    range_between x.0.now x.1.now ≡ range_in text
unfolding range_in
range-some text r x is split =
    let found : (position_or_len is_dash text < length text) × (x.0.now ≡ before_first is_dash text)
    × (x.1.now ≡ after_first is_dash text) =
    subst (λ r. MatchOption r (position_or_len is_dash text ≡ length text)
    (λ x. (position_or_len is_dash text < length text) × (x.0.now ≡ before_first is_dash text) × (x.1.now ≡ after_first is_dash text))) is
    (at text r split) in
    let below : nat_lt (position_or_len is_dash text) (length text) ≡ true =
    (Decides-ltb (position_or_len is_dash text) (length text)).1 found.0 in
    ap (λ before. range_between before x.1.now) found.1
    ∙ ap (range_between (before_first is_dash text)) found.2
    ∙ sym (ap (λ b. if b then range_between (before_first is_dash text) (after_first is_dash text) else range_between text text) below)

-- names after ranges
abbrev pub with_names : List (List ℕ) → List FieldRange → List FieldRange × List (List ℕ)
with_names names ranges = (ranges, names)

-- the ranges and the names of parts, part after part
module _ (parts : List (List ℕ)) (n : ℕ) (items : List FieldRange) (names : List (List ℕ))
    (so_far : ranges_in parts ≡ option_map (λ later. items ++ later) (ranges_in (drop n parts)))
    (named : filter is_name parts ≡ names ++ filter is_name (drop n parts)) where
  -- the next part
  module _ (part : List ℕ) (turn : (n < length parts) × (part ≡ get_or parts n part)) where
    cut : drop n parts ≡ part ∷ drop (n + 1) parts
    cut = drop_more parts n part turn.0 ∙ ap (λ p. p ∷ drop (n + 1) parts) (sym turn.1)

    next : ranges_in (drop n parts) ≡ with_range (part_range part) (ranges_in (drop (n + 1) parts))
    next = ap ranges_in cut

    pushed : (range : FieldRange) (later : Option (List FieldRange)) →
        option_map (λ later. items ++ later) (with_range (Some range) later) ≡ option_map (λ later. (items ++ range ∷ []) ++ later) later
    pushed range None = refl
    pushed range (Some later) = ap Some (sym (append_assoc items (range ∷ []) later))

    pub ranges-next : (range : FieldRange) → part_range part ≡ Some range →
        ranges_in parts ≡ option_map (λ later. (items ++ range ∷ []) ++ later) (ranges_in (drop (n + 1) parts))
    ranges-next range some =
        so_far ∙ ap (option_map (λ later. items ++ later)) (next ∙ ap (λ r. with_range r (ranges_in (drop (n + 1) parts))) some)
        ∙ pushed range (ranges_in (drop (n + 1) parts))

    -- it is a name
    module _ (is : is_name part ≡ true) where
      pub ranges-named : ranges_in parts ≡ option_map (λ later. (items ++ NAMED ∷ []) ++ later) (ranges_in (drop (n + 1) parts))
      ranges-named = ranges-next NAMED (rw is refl)

      pub names-next : filter is_name parts ≡ (names ++ part ∷ []) ++ filter is_name (drop (n + 1) parts)
      names-next = named ∙ ap (λ l. names ++ l) (ap (filter is_name) cut ∙ rw is refl) ∙ sym (append_assoc names (part ∷ []) _)

    -- it is none
    module _ (is : is_name part ≡ false) where
      as_range : part_range part ≡ range_in part
      as_range = rw is refl

      pub names-passed : filter is_name parts ≡ names ++ filter is_name (drop (n + 1) parts)
      names-passed = named ∙ ap (λ l. names ++ l) (ap (filter is_name) cut ∙ rw is refl)

      pub list-refused : range_in part ≡ None → option_map (with_names (filter is_name parts)) (ranges_in parts) ≡ None
      list-refused none =
          ap (option_map (with_names (filter is_name parts))) (so_far
          ∙ ap (option_map (λ later. items ++ later)) (next ∙ ap (λ r. with_range r (ranges_in (drop (n + 1) parts))) (as_range ∙ none)))

      pub ranges-other : (range : FieldRange) → range_in part ≡ Some range →
          ranges_in parts ≡ option_map (λ later. (items ++ range ∷ []) ++ later) (ranges_in (drop (n + 1) parts))
      ranges-other range some = ranges-next range (as_range ∙ some)

  -- no part is left
  pub list-all : n ≡ length parts → option_map (with_names (filter is_name parts)) (ranges_in parts) ≡ Some (with_names names items)
  list-all all =
      let none = drop_all n parts (omega (arith, all)) in
      ap (option_map (with_names (filter is_name parts)))
      (so_far ∙ ap (λ l. option_map (λ later. items ++ later) (ranges_in l)) none ∙ ap Some (append-nil items))
      ∙ ap (λ l. Some (with_names l items)) (named ∙ ap (λ l. names ++ filter is_name l) none ∙ append-nil names)
