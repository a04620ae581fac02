-- What is appended to the text of a line.
use Rattle.regroup_lines.proofs.Common.{ℕ, List, [], ◌++◌, Option, None, Some, Result, Ok, Err, refl, sym, ap, ◌∙◌, ◌≡◌, subst, append-nil}
use Rattle.regroup_lines.proofs.Common.{append_assoc, arith, after, Fault, SendsLine, length, Rules, Span, NotationData, take, drop, MARK}
use Rattle.regroup_lines.proofs.Common.{begins_with_mark, passes_mark, body_written, unmarked_written, Bool, false, slice_range, take-add}
use Rattle.regroup_lines.proofs.Common.{take-append-drop, take_rest, drop-drop, eq-eqb, eqb-true, ne_eqb, if◌then◌else◌, between}
use Rattle.regroup_lines.proofs.Common.{number_written, place_written, ◌==◌, ◌-◌, ◌&&◌, ◌+◌, true}
use Rattle.regroup_lines.specs.Adding.{Adds, AddsIf, SendsAdded}
use Rattle.regroup_lines.specs.Lines.{mark_len}
use Rattle.regroup_lines.specs.declared.rules.Span.TheVariants as span
use Rattle.std.proofs.lemmas.Bool.Decides.{Decides-eqb}
use Rattle.std.proofs.lemmas.Slice.Eq.{starts_is}

pub adds_nil : (a : Option (List ℕ)) → Adds a a []
adds_nil None = tt
adds_nil (Some text) = sym (append-nil text)

pub adds_trans : (a b c : Option (List ℕ)) (s t : List ℕ) → Adds a b s → Adds b c t → Adds a c (s ++ t)
adds_trans a b None s t first second = tt
adds_trans a None (Some z) s t first second = absurd second
adds_trans None (Some y) (Some z) s t first second = absurd first
adds_trans (Some x) (Some y) (Some z) s t first second = second ∙ ap (λ l. l ++ t) first ∙ append_assoc x s t

-- a text after others, or its fault
pub after-nil : (written : Result (List ℕ) Fault) → after [] written ≡ written
after-nil (Ok text) = refl
after-nil (Err fault) = refl

pub after-after : (p q : List ℕ) (written : Result (List ℕ) Fault) → after p (after q written) ≡ after (p ++ q) written
after-after p q (Ok text) = ap Ok (sym (append_assoc p q text))
after-after p q (Err fault) = refl

pub AddsIf-after : (a b c : Option (List ℕ)) (s : List ℕ) (written : Result (List ℕ) Fault) (result : Result (Unit {0}) Fault)
    → Adds a b s → AddsIf written b c result → AddsIf (after s written) a c result
AddsIf-after a b c s (Ok text) (Ok added) first second = adds_trans a b c s text first second
AddsIf-after a b c s (Ok text) (Err fault) first second = absurd second
AddsIf-after a b c s (Err fault) (Ok added) first second = absurd second
AddsIf-after a b c s (Err fault) (Err returned) first second = second

-- a line is sent as the mark before it and the rest: these are appended and sent, or the rest is at fault
module _ (rules : Rules) (from to : NotationData) (number : ℕ) (text : List ℕ) (n : ℕ) (is : n ≡ mark_len rules.span number text) where
  abbrev rest : List ℕ
  rest = slice_range text n (length text)

  abbrev rest_written : Result (List ℕ) Fault
  rest_written = unmarked_written rules from to number rest

  abbrev SendsBody : (a b : Option (List ℕ)) → Result (Unit {0}) Fault → Type 0
  SendsBody a b result = SendsLine rules.line_end (body_written rules from to number text) a b result

  marked : (where_is : Span) → passes_mark where_is number text ≡ true → take 3 text ≡ MARK
  marked span.Line passes = absurd (cc)
  marked span.Trimmed passes = ap (take 3) ((starts_is Decides-eqb text MARK (begins_with_mark text) refl).0 (grind arith))
  marked (span.Fields fields) passes = ap (take 3) ((starts_is Decides-eqb text MARK (begins_with_mark text) refl).0 (grind arith))

  body_is : body_written rules from to number text ≡ after (take n text) rest_written
  body_is =
      by (passes_mark rules.span number text) refl
      ∙ ap (λ k. after (take k text) (unmarked_written rules from to number (drop k text))) (sym is)
      ∙ ap (λ l. after (take n text) (unmarked_written rules from to number l)) (sym (take_rest text n))
    where
      by : (passes : Bool) → passes_mark rules.span number text ≡ passes →
          body_written rules from to number text
          ≡ after (take (mark_len rules.span number text) text)
          (unmarked_written rules from to number (drop (mark_len rules.span number text) text))
      by true passes = rw passes (ap (λ mark. after mark (unmarked_written rules from to number (drop 3 text)))
          (sym (marked rules.span passes)))
      by false passes = rw passes (sym (after-nil (unmarked_written rules from to number text)))

  pub body-sends : (written : Result (List ℕ) Fault) → rest_written ≡ written → (a b : Option (List ℕ)) (result : Result (Unit {0}) Fault)
      → SendsLine rules.line_end (after (take n text) written) a b result → SendsBody a b result
  body-sends written same a b result sends =
      subst (λ x. SendsLine rules.line_end x a b result) (sym (body_is ∙ ap (after (take n text)) same)) sends

  module _ (begun added : Option (List ℕ)) (starts : Adds (Some []) begun (take n text)) where
    pub body-added : AddsIf {T = Unit {0}} rest_written begun added (Ok tt) → (a b : Option (List ℕ)) (result : Result (Unit {0}) Fault)
        → SendsAdded rules.line_end added a b result → SendsBody a b result
    body-added adds a b result sends = body-sends rest_written refl a b result (by rest_written adds)
      where
        by : (written : Result (List ℕ) Fault) → AddsIf {T = Unit {0}} written begun added (Ok tt)
            → SendsLine rules.line_end (after (take n text) written) a b result
        by (Ok line) adds = sends (take n text ++ line) (adds_trans (Some []) begun added (take n text) line starts adds)
        by (Err fault) adds = absurd adds

    pub body-fault : (fault : Fault) → AddsIf {T = Unit {0}} rest_written begun added (Err fault) → (a : Option (List ℕ))
        → SendsBody a a (Err fault)
    body-fault fault adds a = body-sends rest_written refl a a (Err fault) (by rest_written adds)
      where
        by : (written : Result (List ℕ) Fault) → AddsIf {T = Unit {0}} written begun added (Err fault)
            → SendsLine {T = Unit {0}} rules.line_end (after (take n text) written) a a (Err fault)
        by (Ok line) adds = absurd adds
        by (Err returned) adds = (adds, refl)

  -- the number at a place of the rest
  pub place-after : (a b : ℕ) → place_written rules from to number text (n + a, n + b)
      ≡ after (take n text) (place_written rules from to number rest (a, b))
  place-after a b =
      let front : take (n + a) text ≡ take n text ++ take a rest =
      take-add n a text ∙ ap (λ l. take n text ++ take a l) (sym (take_rest text n)) in
      let behind : drop (n + b) text ≡ drop b rest =
      ap (λ k. drop k text) (omega arith) ∙ sym (drop-drop b n text) ∙ ap (drop b) (sym (take_rest text n)) in
      let inside : slice_range text (n + a) (n + b) ≡ slice_range rest a b =
      ap (λ k. take k (drop (n + a) text)) (omega arith) ∙ ap (take (b - a)) (ap (λ k. drop k text) (omega arith)
      ∙ sym (drop-drop a n text) ∙ ap (drop a) (sym (take_rest text n))) in
      let empty : (n + a == n + b) ≡ (a == b) = same (a == b) refl in
      rw (front, behind, inside, empty) (by (rules.passes_empty && (a == b)) (number_written rules.reading from to number
      (slice_range rest a b)))
    where
      same : (is : Bool) → (a == b) ≡ is → (n + a == n + b) ≡ is
      same true is = let even = eqb-true a b is in eq-eqb (n + a) (n + b) (omega arith)
      same false is = ne_eqb (n + a) (n + b) (λ even. absurd (cc (eq-eqb a b (omega (arith, even)), is)))

      whole : take n text ++ rest ≡ text
      whole = ap (λ l. take n text ++ l) (take_rest text n) ∙ take-append-drop n text

      by : (passes : Bool) (written : Result (List ℕ) Fault) →
          (if passes then Ok text else between (take n text ++ take a rest) (drop b rest) written)
          ≡ after (take n text) (if passes then Ok rest else between (take a rest) (drop b rest) written)
      by true written = ap Ok (sym whole)
      by false (Ok t) = ap Ok (append_assoc (take n text) (take a rest) (t ++ drop b rest))
      by false (Err f) = refl
