-- The header of an input, and the fields that have names in it.
use Rattle.regroup_lines.proofs.Common.{Err, Fields, FindsPiece, Input, List, None, Option, InputPiece, Range, Result, Rules, Some, Start}
use Rattle.regroup_lines.proofs.Common.{CsvState, [], ap, arith, array_len, bytes_at, drop, false, fields_of, held, is_some, length, ok_or}
use Rattle.regroup_lines.proofs.Common.{number_of, quotes_in, quotes_of, refl, result_map_both, subst, sym, take, true, ℕ, ◌+◌, ◌-◌, ◌<◌}
use Rattle.regroup_lines.proofs.Common.{◌≤◌, ◌∙◌, ◌∷◌, ◌≡◌}
use Rattle.std.specs.Borrow.{Bor}
use Rattle.regroup_lines.proofs.FieldLemmas.{split-ended}
use Rattle.regroup_lines.proofs.RecordLemmas.{Ends}
use Rattle.regroup_lines.specs.Header.{IsHeader, Misnamed, is_named, misnamed_of, named_after, only_one, unmarked}
use Rattle.regroup_lines.specs.Header.Misnamed.{Doubled}
use Rattle.regroup_lines.specs.declared.header.NameFault.TheVariants as fault
use Rattle.regroup_lines.specs.declared.input.InputPiece.TheVariants as piece
use Rattle.regroup_lines.specs.declared.records.CsvState.TheVariants.{Mark}

-- the first piece of an input
module _ (rules : Rules) (before : List ℕ) (none : before ≡ []) (within : CsvState) (first : within ≡ Mark) (input : Input)
    (a b : Option (List ℕ)) (found : InputPiece)
    (finds : FindsPiece (quotes_in rules.span) rules.line_end within before input a b found) (text : List ℕ) where
  abbrev Finds : InputPiece → Type 0
  Finds found = FindsPiece (quotes_in rules.span) rules.line_end Mark [] input a b found

  here : Finds found
  here = subst (λ l. FindsPiece (quotes_in rules.span) rules.line_end Mark l input a b found) none
      (subst (λ w. FindsPiece (quotes_in rules.span) rules.line_end w before input a b found) first finds)

  abbrev Heads : Type 0
  Heads = IsHeader rules a (unmarked text)

  pub header-line : (place : Range ℕ) → found ≡ piece.Line place → text ≡ bytes_at input place → Heads
  header-line place is same =
      let line : Finds (piece.Line place) = subst Finds is here in
      subst (λ l. IsHeader rules a (unmarked l)) (sym same) (IsHeader.ended _ _ b line.0 line.1)

  pub header-rest : (place : Range ℕ) → found ≡ piece.Rest place → text ≡ bytes_at input place → Heads
  header-rest place is same =
      let rest : Finds (piece.Rest place) = subst Finds is here in
      subst (λ l. IsHeader rules a (unmarked l)) (sym same) (IsHeader.last _ b rest.0 rest.1 rest.3)

  pub header-long : found ≡ piece.TooLong → text ≡ held input → array_len input ≡ rules.max_line_len + 1 → Heads
  header-long is same len =
      let long : Finds piece.TooLong = subst Finds is here in
      let over = long.2 in
      subst (λ l. IsHeader rules a (unmarked l)) (sym same) (IsHeader.long _ b long.0 long.1 (omega (arith, over, len)))

-- the one field that has a name, by one that was found before
abbrev pub also : (name : List ℕ) → Option ℕ → List ℕ → Result ℕ Misnamed
also name None numbers = only_one name numbers
also name (Some number) numbers = only_one name (number ∷ numbers)

-- no field is left
pub named-end : (name : Bor (List ℕ)) (found : Option ℕ) →
    result_map_both (λ number. number) misnamed_of (ok_or found (fault.Unknown name)) ≡ also name.now found []
named-end name None = refl
named-end name (Some number) = refl

-- the next field, by where it ends
module _ (cs : Fields) (name : List ℕ) (count : ℕ) (rest : List ℕ) (quotes : Option ℕ) (same : quotes ≡ quotes_of cs) (len : ℕ)
    (there : CsvState) (ends : Ends quotes cs.delimiter Start rest len there) where
  abbrev Next : (n m : ℕ) → Type 0
  Next n m =
      (later : List (List ℕ)) × (fields_of cs rest ≡ take m rest ∷ later) × (n ≡ length rest → later ≡ [])
      × (n < length rest → later ≡ fields_of cs (drop (n + 1) rest)) × (n ≤ length rest)

  pub next : Next len len
  next =
      let whole : 0 + len ≡ len = omega arith in
      let same_len : 0 + len - 0 ≡ len = omega arith in
      subst (Next len) same_len
      (subst (λ n. Next n (0 + len - 0)) whole (split-ended cs quotes same rest rest 0 len there (omega arith) refl ends))

  abbrev from_here : Option ℕ → Result ℕ Misnamed
  from_here found = also name found (named_after cs name count (fields_of cs rest))

  abbrev pub then_after : (n : ℕ) → Option ℕ → Result ℕ Misnamed
  then_after n found = also name found (named_after cs name n next.0)

  module _ (n : ℕ) (counted : n ≡ number_of cs.blanks count (take len rest)) (found : Option ℕ) where
    -- it has the name, after another or as the first, or has another name
    module _ (is : is_named cs name (take len rest) ≡ true) where
      pub named-again : is_some found ≡ true → from_here found ≡ Err (Doubled name)
      named-again some = by found some
        where
          by : (found : Option ℕ) → is_some found ≡ true → from_here found ≡ Err (Doubled name)
          by None some = absurd (cc)
          by (Some number) some = rw (next.1, is) refl

      pub named-first : is_some found ≡ false → from_here found ≡ then_after n (Some n)
      named-first none = by found none
        where
          by : (found : Option ℕ) → is_some found ≡ false → from_here found ≡ then_after n (Some n)
          by None none = rw (next.1, is, counted) refl
          by (Some number) none = absurd (cc)

    pub named-other : is_named cs name (take len rest) ≡ false → from_here found ≡ then_after n found
    named-other is = rw (next.1, is, counted) refl

    -- it is the last one, or another is after it
    pub named-last : len ≡ length rest → then_after n found ≡ also name found []
    named-last last = ap (λ l. also name found (named_after cs name n l)) (next.2 last)

    pub named-next : (left : List ℕ) → left ≡ drop (len + 1) rest → len < length rest →
        then_after n found ≡ also name found (named_after cs name n (fields_of cs left))
    named-next left is more =
        ap (λ l. also name found (named_after cs name n l)) (next.3 more ∙ ap (fields_of cs) (sym is))
