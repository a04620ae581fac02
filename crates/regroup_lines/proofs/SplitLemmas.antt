-- An input that is split after a byte that ends a line: the output of each part.
use Rattle.regroup_lines.proofs.Common.{Bool, Ended, Err, Fault, NotationData, List, MARK, Ok, Regrouped, Result, Rules, Sent, Some, Span}
use Rattle.regroup_lines.proofs.Common.{Start, TooMany, Unclosed, [], ap, append_assoc, are_any, arith, begins_with_mark, body_sent}
use Rattle.regroup_lines.proofs.Common.{body_written, both_ways, ended_by, eq-eqb, eqb-true, false, false_from_ne_true, fault_named}
use Rattle.regroup_lines.proofs.Common.{fault_sent, if◌then◌else◌, is_open, join_with_byte, joined, le-ltb, length, length-take, line_after}
use Rattle.regroup_lines.proofs.Common.{line_sent, long_fault, lt-leb, ltb-false, nat_eq, nat_le, nat_lt, only_written, passed, passes}
use Rattle.regroup_lines.proofs.Common.{passes_mark, quotes_in, refl, regrouped, regrouped_parts, returning, sending_line, split_at, subst}
use Rattle.regroup_lines.proofs.Common.{sym, take, take-append-le, text_sent, true, ℕ, ⊤, ◌&&◌, ◌++◌, ◌+◌, ◌<◌, ◌==◌, ◌||◌, ◌∙◌, ◌∷◌, ◌≡◌}
use Rattle.regroup_lines.proofs.Common.{◌≤◌, ended_once}
use lib.Pointwise.{pointwise, pointwise_long}
use Rattle.regroup_lines.specs.Laws.{SplitLaw, SplitsInto}
use Rattle.regroup_lines.specs.declared.records.CsvState.TheVariants.{Mark}
use Rattle.regroup_lines.specs.declared.rules.Invalid.{Invalid}
use Rattle.regroup_lines.specs.declared.rules.Invalid.TheVariants.{Abort, Fail, Warn, Ignore}
use Rattle.regroup_lines.specs.declared.rules.Span.TheVariants as span
use Rattle.regroup_lines.proofs.RecordLemmas.{open-plain, split-append, split-joined, split-plain, split-some}
use Rattle.regroup_lines.proofs.FieldLemmas.{and_false, joined-tail, tail_of}
use Rattle.regroup_lines.proofs.WriterLemmas.{are_any-append, joined-assoc}
use Rattle.regroup_lines.proofs.NumberedLemmas.{body-numbered, numbered, with_number}

-- of one line the same is sent as of the other, with faults named of both or of none, unless its fault is returned
record SameSent (s t : Sent) : Type 0 where
  written : s.written ≡ t.written
  rejected : s.rejected ≡ t.rejected
  named : are_any s.named ≡ are_any t.named

same-joined : (s t a b : Sent) → SameSent s t → SameSent a b → SameSent (joined s a) (joined t b)
same-joined s t a b first rest = record {
  written = ap (λ l. l ++ a.written) first.written ∙ ap (λ l. t.written ++ l) rest.written;
  rejected = ap (λ l. l ++ a.rejected) first.rejected ∙ ap (λ l. t.rejected ++ l) rest.rejected;
  named = are_any-append s.named a.named ∙ ap (λ c. c || are_any a.named) first.named ∙ ap (λ c. are_any t.named || c) rest.named
      ∙ sym (are_any-append t.named b.named);
}

abbrev SameLine : Result Sent Fault → Result Sent Fault → Type 0
SameLine (Ok s) (Ok t) = SameSent s t
SameLine (Ok s) (Err g) = ⊥
SameLine (Err f) y = ⊤

-- what is written in place of a line does not depend on its number
module _ (rules : Rules) (from to : NotationData) (n m : ℕ) where
  named-same : (invalid : Invalid) (f g : Fault) → are_any (fault_named invalid f) ≡ are_any (fault_named invalid g)
  named-same Abort f g = refl
  named-same Fail f g = refl
  named-same Warn f g = refl
  named-same Ignore f g = refl

  fault-same : (f g : Fault) (bytes : List ℕ) → SameLine (fault_sent rules f bytes) (fault_sent rules g bytes)
  fault-same f g bytes = by (passes rules.invalid)
    where
      by : (does : Bool) → SameLine (if does then Ok (passed rules.rejects (fault_named rules.invalid f) bytes) else Err f)
          (if does then Ok (passed rules.rejects (fault_named rules.invalid g) bytes) else Err g)
      by true = record { written = refl; rejected = refl; named = named-same rules.invalid f g }
      by false = tt

  body-same : (text : List ℕ) (written : Result (List ℕ) Fault) → SameLine (body_sent rules text (numbered n written))
      (body_sent rules text written)
  body-same text (Ok t) = record { written = refl; rejected = refl; named = refl }
  body-same text (Err f) = fault-same (with_number n f) f (ended_by rules.line_end text)

  text-same : (text : List ℕ) → nat_le n rules.header_lines ≡ nat_le m rules.header_lines
      → passes_mark rules.span n text ≡ passes_mark rules.span m text →
      SameLine (text_sent rules from to n text) (text_sent rules from to m text)
  text-same text headers marks = rw (body-numbered rules from to n m text headers marks)
      (body-same text (body_written rules from to m text))

  faulty-same : (is : Bool) (f g : Fault) (bytes : List ℕ) (x y : Result Sent Fault) → SameLine x y
      → SameLine (if is then fault_sent rules f bytes else x) (if is then fault_sent rules g bytes else y)
  faulty-same true f g bytes x y same = fault-same f g bytes
  faulty-same false f g bytes x y same = same

  many-case : (most count k : ℕ) (is : Bool) (x y : Result Sent Fault) → nat_lt most count ≡ is
      → (nat_lt most count ≡ false → nat_lt most k ≡ false) →
      SameLine x y → SameLine (if is then Err TooMany else x) (if nat_lt most k then Err TooMany else y)
  many-case most count k true x y at few same = tt
  many-case most count k false x y at few same = rw (few at) same

-- a lower number is not too high where a higher one is not
fewer : (most n m : ℕ) → m ≤ n → nat_lt most n ≡ false → nat_lt most m ≡ false
fewer most n m below few = let low = ltb-false most n few in le-ltb most m (omega arith)

-- no header has a line
past-header : (n header : ℕ) → header ≡ 0 → 0 < n → nat_le n header ≡ false
past-header n header none some = lt-leb n header (omega arith)

-- a mark is passed on of the first line alone, so of none if there it begins with none
plain-mark : (n m : ℕ) (text : List ℕ) → m ≤ n → 0 < m → (m ≡ 1 → begins_with_mark text ≡ false)
    → ((n == 1) && begins_with_mark text) ≡ ((m == 1) && begins_with_mark text)
plain-mark n m text below some plain = by (m == 1) refl
  where
    by : (is : Bool) → (m == 1) ≡ is → ((n == 1) && begins_with_mark text) ≡ ((m == 1) && begins_with_mark text)
    by true is =
        let none = plain (eqb-true m 1 is) in
        and_false (n == 1) (begins_with_mark text) none ∙ sym (and_false (m == 1) (begins_with_mark text) none)
    by false is =
        let later : (n == 1) ≡ false = false_from_ne_true (n == 1) (λ yes. let one = eqb-true n 1 yes
        in both_ways (m == 1) is (eq-eqb m 1 (omega (arith, one)))) in
        ap (λ b. b && begins_with_mark text) (later ∙ sym is)

same-mark : (where_is : Span) (n m : ℕ) (text : List ℕ) → m ≤ n → 0 < m → (m ≡ 1 → begins_with_mark text ≡ false)
    → passes_mark where_is n text ≡ passes_mark where_is m text
same-mark span.Line n m text below some plain = refl
same-mark span.Trimmed n m text below some plain = plain-mark n m text below some plain
same-mark (span.Fields fields) n m text below some plain = plain-mark n m text below some plain

-- a text that begins with a mark does so with more bytes after it
mark-more : (text more : List ℕ) → begins_with_mark text ≡ true → begins_with_mark (text ++ more) ≡ true
mark-more text more begins =
    let long : 3 ≡ length (take 3 text) = pointwise_long nat_eq MARK (take 3 text) begins in
    ap (pointwise nat_eq MARK) (take-append-le 3 text more (omega (arith, long, length-take 3 text))) ∙ begins

-- the first of the parts of an input begins with no mark, if the input does not
abbrev IsPlain : List (List ℕ) → Type 0
IsPlain [] = ⊤
IsPlain (text ∷ parts) = begins_with_mark text ≡ false

plain-parts : (end : ℕ) (bytes : List ℕ) (parts : List (List ℕ)) → join_with_byte end parts ≡ bytes → begins_with_mark bytes ≡ false
    → IsPlain parts
plain-parts end bytes [] whole plain = tt
plain-parts end bytes (text ∷ parts) whole plain =
    false_from_ne_true (begins_with_mark text)
    (λ yes. both_ways (begins_with_mark bytes) plain (ap begins_with_mark (sym whole ∙ joined-tail end text parts)
    ∙ mark-more text (tail_of end parts) yes))

-- a run over some lines, and the same run with a number of lines before it
record Shifts (all part : Regrouped) (before total : ℕ) : Type 0 where
  lines : ℕ
  returned : part.returned ≡ Some (Ok lines)
  counted : total ≡ before + lines
  same : SameSent all.sent part.sent

shift-line : (x y : Result Sent Fault) (all part : Regrouped) (before total : ℕ) → SameLine x y
    → (sending_line x all).returned ≡ Some (Ok total) → (all.returned ≡ Some (Ok total) → Shifts all part before total) →
    Shifts (sending_line x all) (sending_line y part) before total
shift-line (Ok s) (Ok t) all part before total same is rest =
    let after = rest is in
    record {
      lines = after.lines;
      returned = after.returned;
      counted = after.counted;
      same = same-joined s t all.sent part.sent same after.same;
    }
shift-line (Ok s) (Err g) all part before total same is rest = absurd same
shift-line (Err f) y all part before total same is rest = absurd (cc)

same-nothing : SameSent (only_written []) (only_written [])
same-nothing = record { written = refl; rejected = refl; named = refl }

rest-shifts : (is : Bool) (n k before total : ℕ) (x y : Result Sent Fault) → n ≡ before + k → SameLine x y →
    (if is then returning (Some (Ok n)) else sending_line x (returning (Some (Ok (n + 1))))).returned ≡ Some (Ok total) →
    Shifts (if is then returning (Some (Ok n)) else sending_line x (returning (Some (Ok (n + 1)))))
    (if is then returning (Some (Ok k)) else sending_line y (returning (Some (Ok (k + 1))))) before total
rest-shifts true n k before total x y sum same is = record {
  lines = k;
  returned = refl;
  counted = let e : n ≡ total = cc in omega arith;
  same = same-nothing;
}
rest-shifts false n k before total x y sum same is =
    shift-line x y (returning (Some (Ok (n + 1)))) (returning (Some (Ok (k + 1)))) before total same is
    (λ ended. record { lines = k + 1; returned = refl; counted = let e : n + 1 ≡ total = cc in omega arith; same = same-nothing })

-- a run over lines and what follows them, over the lines alone, and over what follows
record Splits (all first second : Regrouped) (middle total : ℕ) : Type 0 where
  lines : ℕ
  first_returned : first.returned ≡ Some (Ok middle)
  second_returned : second.returned ≡ Some (Ok lines)
  counted : total ≡ middle + lines
  same : SameSent all.sent (joined first.sent second.sent)

split-line : (x : Result Sent Fault) (all first second : Regrouped) (middle total : ℕ) → (sending_line x all).returned ≡ Some (Ok total)
    → (all.returned ≡ Some (Ok total) → Splits all first second middle total) →
    Splits (sending_line x all) (sending_line x first) second middle total
split-line (Ok s) all first second middle total is rest =
    let after = rest is in
    record {
      lines = after.lines;
      first_returned = after.first_returned;
      second_returned = after.second_returned;
      counted = after.counted;
      same = subst (SameSent (joined s all.sent)) (joined-assoc s first.sent second.sent)
          (same-joined s s all.sent (joined first.sent second.sent) (record { written = refl; rejected = refl; named = refl }) after.same);
    }
split-line (Err fault) all first second middle total is rest = absurd (cc)

-- an input in parts, read to its end
module _ (rules : Rules) (most : ℕ) (from to : NotationData) where
  run : ℕ → ℕ → List (List ℕ) → Regrouped
  run count number parts = regrouped_parts rules most from to Ended count number parts

  at_line : ℕ → ℕ → (ended : List ℕ) → List ℕ → Result Sent Fault
  at_line count number ended text = line_sent rules most from to count number ended text

  line-same : (none : rules.header_lines ≡ 0) (n k p q : ℕ) (ended text : List ℕ) → k ≤ n → q ≤ p → 0 < q
      → (q ≡ 1 → begins_with_mark text ≡ false) → SameLine (at_line n p ended text) (at_line k q ended text)
  unfolding at_line
  line-same none n k p q ended text fewer_lines below some plain =
      let opens : is_open (quotes_in rules.span) p text ≡ is_open (quotes_in rules.span) q text =
      open-plain (quotes_in rules.span) p text (λ one. plain (omega (arith, one, below, some)))
      ∙ sym (open-plain (quotes_in rules.span) q text plain) in
      many-case rules from to p q most (n + 1) (k + 1) (nat_lt most (n + 1)) _ _ refl
      (fewer most (n + 1) (k + 1) (omega (arith, fewer_lines)))
      (faulty-same rules from to p q (nat_lt rules.max_line_len (length text)) (long_fault rules p text) (long_fault rules q text) ended _ _
      (rw opens (faulty-same rules from to p q (is_open (quotes_in rules.span) q text) (Unclosed p) (Unclosed q)
      (ended_once rules.line_end false text) _ _
      (text-same rules from to p q text (past-header p rules.header_lines none (omega (arith, some, below))
      ∙ sym (past-header q rules.header_lines none some))
      (same-mark rules.span p q text below some plain)))))

  shifts : (none : rules.header_lines ≡ 0) (n k p q before total : ℕ) (parts : List (List ℕ)) → n ≡ before + k → q ≤ p → 0 < q
      → (q ≡ 1 → IsPlain parts) → (run n p parts).returned ≡ Some (Ok total) →
      Shifts (run n p parts) (run k q parts) before total
  unfolding run at_line
  shifts none n k p q before total [] sum below some plain is = absurd (cc)
  shifts none n k p q before total (rest ∷ []) sum below some plain is =
      rest-shifts (length rest == 0) n k before total (at_line n p (ended_once rules.line_end false rest) rest)
      (at_line k q (ended_once rules.line_end false rest) rest) sum (line-same none n k p q (ended_once rules.line_end false rest) rest
      (omega (arith, sum)) below some plain) is
  shifts none n k p q before total (text ∷ next ∷ parts) sum below some plain is =
      shift-line (at_line n p (ended_by rules.line_end text) text) (at_line k q (ended_by rules.line_end text) text)
      (run (n + 1) (line_after rules p text) (next ∷ parts)) (run (k + 1) (line_after rules q text) (next ∷ parts)) before total
      (line-same none n k p q (ended_by rules.line_end text) text (omega (arith, sum)) below some plain) is
      (λ after. shifts none (n + 1) (k + 1) (line_after rules p text) (line_after rules q text) before total (next ∷ parts)
      (omega (arith, sum)) (omega (arith, below)) (omega arith)
      (λ one. absurd (omega (arith, one, some))) after)

  -- a line before others
  run-line : (n p : ℕ) (text : List ℕ) (texts : List (List ℕ)) (next : List ℕ) (parts : List (List ℕ)) →
      run n p (text ∷ (texts ++ next ∷ parts))
      ≡ sending_line (at_line n p (ended_by rules.line_end text) text) (run (n + 1) (line_after rules p text) (texts ++ next ∷ parts))
  unfolding run at_line
  run-line n p text [] next parts = refl
  run-line n p text (other ∷ texts) next parts = refl

  splits : (none : rules.header_lines ≡ 0) (n p middle total : ℕ) (texts : List (List ℕ)) (next : List ℕ) (parts : List (List ℕ))
      → middle ≡ n + length texts → 1 ≤ p → IsPlain (next ∷ parts) →
      (run n p (texts ++ next ∷ parts)).returned ≡ Some (Ok total) → Splits (run n p (texts ++ next ∷ parts)) (run n p (texts ++ [] ∷ []))
      (run 0 1 (next ∷ parts)) middle total
  unfolding run
  splits none n p middle total [] next parts sum some plain is =
      let after = shifts none n 0 p 1 n total (next ∷ parts) (omega arith) some (omega arith) (λ _. plain) is in
      let same : n ≡ middle = omega (arith, sum) in
      record {
        lines = after.lines;
        first_returned = ap (λ k. Some (Ok k)) same;
        second_returned = after.returned;
        counted = let counted = after.counted in omega (arith, counted, same);
        same = after.same;
      }
  splits none n p middle total (text ∷ texts) next parts sum some plain is =
      let whole = run-line n p text texts next parts in
      let alone = run-line n p text texts [] [] in
      rw (whole, alone) (split-line (at_line n p (ended_by rules.line_end text) text)
      (run (n + 1) (line_after rules p text) (texts ++ next ∷ parts)) (run (n + 1) (line_after rules p text) (texts ++ [] ∷ []))
      (run 0 1 (next ∷ parts)) middle total
      (ap (λ r. r.returned) (sym whole) ∙ is) (λ after. splits none (n + 1) (line_after rules p text) middle total texts next parts
      (omega (arith, sum)) (omega arith) plain after))

  both : (none : rules.header_lines ≡ 0) (texts parts : List (List ℕ)) (total : ℕ) → 0 < length parts → IsPlain parts →
      (run 0 1 (texts ++ parts)).returned ≡ Some (Ok total) → SplitsInto (run 0 1 (texts ++ parts)) (run 0 1 (texts ++ [] ∷ []))
      (run 0 1 parts) total
  both none texts [] total some plain is = absurd (omega arith)
  both none texts (next ∷ parts) total some plain is =
      let all = splits none 0 1 (length texts) total texts next parts (omega arith) (omega arith) plain is in
      record {
        first_lines = length texts;
        second_lines = all.lines;
        first_returned = all.first_returned;
        second_returned = all.second_returned;
        counted = all.counted;
        written = all.same.written;
        rejected = all.same.rejected;
        named = all.same.named ∙ are_any-append (run 0 1 (texts ++ [] ∷ [])).sent.named (run 0 1 (next ∷ parts)).sent.named;
      }

pub split_law : SplitLaw
unfolding run
split_law rules most from to a b lines none plain closed is =
    let q = quotes_in rules.span in
    let e = rules.line_end in
    let split : List ℕ → List (List ℕ) = split_at q e Mark in
    let later = split_at q e Start b in
    let whole : regrouped rules most from to Ended (ended_by e a ++ b) ≡ run rules most from to 0 1 (split a ++ later) =
    ap (regrouped rules most from to Ended) (append_assoc a (e ∷ []) b) ∙ ap (run rules most from to 0 1) (split-append q e Mark a b closed)
    in
    let first : regrouped rules most from to Ended (ended_by e a) ≡ run rules most from to 0 1 (split a ++ [] ∷ []) =
    ap (run rules most from to 0 1) (split-append q e Mark a [] closed) in
    let second : regrouped rules most from to Ended b ≡ run rules most from to 0 1 later =
    ap (run rules most from to 0 1) (split-plain q e b plain) in
    let parts = both rules most from to none (split a) later lines (split-some q e Start b)
    (plain-parts e b later (split-joined q e Start b) plain) (ap (λ r. r.returned) (sym whole) ∙ is) in
    subst (λ r. SplitsInto r (regrouped rules most from to Ended (ended_by e a)) (regrouped rules most from to Ended b) lines) (sym whole)
    (subst (λ r. SplitsInto (run rules most from to 0 1 (split a ++ later)) r (regrouped rules most from to Ended b) lines) (sym first)
    (subst (λ r. SplitsInto (run rules most from to 0 1 (split a ++ later)) (run rules most from to 0 1 (split a ++ [] ∷ [])) r lines)
    (sym second) parts))
