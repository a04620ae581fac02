-- What regrouping returns where it names no fault.
use Rattle.regroup_lines.proofs.Common.{◌≡◌, ◌≢◌, ℕ, ◌+◌, ◌==◌, false, List, [], ◌∷◌, length, Option, Some, Result, Ok, Err, refl, sym, ap}
use Rattle.regroup_lines.proofs.Common.{subst, arith, nat_lt, ⊤, result_map_both, Appends, length-append, NotationData, StopsWithin, ended_by}
use Rattle.regroup_lines.proofs.Common.{Fault, Reject, Report, TooMany, Unclosed, Write, Regrouped, Sent, Stop, body_sent, body_written}
use Rattle.regroup_lines.proofs.Common.{fault_sent, line_after, line_begun, line_sent, long_fault, long_returned, only_written, passes}
use Rattle.regroup_lines.proofs.Common.{quotes_in, records_of, regrouped, regrouped_parts, regrouped_rest, returning, sending_line}
use Rattle.regroup_lines.proofs.Common.{stop_returned, Ended, is_open, Receives, Regroups, RegroupsNaming, Returns, Writer, failed_by}
use Rattle.regroup_lines.proofs.Common.{text_to, Messages, Output, Rejects, Summary, Rules, ended_once}
use Rattle.regroup_lines.proofs.ChoiceLemmas.{either}
use Rattle.regroup_lines.proofs.LineLemmas.{aborts-fault}

-- nothing is sent but to the output
abbrev IsBare : Sent → Type 0
IsBare sent = sent ≡ only_written sent.written

abbrev IsUnnamed : Result Sent Fault → Type 0
IsUnnamed (Ok sent) = IsBare sent
IsUnnamed (Err fault) = ⊤

abbrev IsRunBare : Regrouped → Type 0
IsRunBare run = IsBare run.sent

-- rules that pass on no line at fault
module _ (rules : Rules) (aborts : passes rules.invalid ≡ false) (most : ℕ) (from to : NotationData) where
  fault-unnamed : (fault : Fault) (bytes : List ℕ) → IsUnnamed (fault_sent rules fault bytes)
  fault-unnamed fault bytes = subst IsUnnamed (sym (aborts-fault rules fault bytes aborts)) tt

  body-unnamed : (text : List ℕ) (body : Result (List ℕ) Fault) → IsUnnamed (body_sent rules text body)
  body-unnamed text (Ok written) = refl
  body-unnamed text (Err fault) = fault-unnamed fault (ended_by rules.line_end text)

  line-unnamed : (count number : ℕ) (ended text : List ℕ) → IsUnnamed (line_sent rules most from to count number ended text)
  line-unnamed count number ended text =
      either IsUnnamed (nat_lt most (count + 1)) (Err TooMany) _ tt
      (either IsUnnamed (nat_lt rules.max_line_len (length text)) _ _ (fault-unnamed (long_fault rules number text) ended)
      (either IsUnnamed (is_open (quotes_in rules.span) number text) _ _
      (fault-unnamed (Unclosed number) (ended_once rules.line_end false text))
      (body-unnamed text (body_written rules from to number text))))

  sending-unnamed : (line : Result Sent Fault) (rest : Regrouped) → IsUnnamed line → IsBare rest.sent → IsBare (sending_line line rest).sent
  sending-unnamed (Ok sent) rest none after = rw (none, after) refl
  sending-unnamed (Err fault) rest none after = refl

  line_begun-unnamed : (stop : Stop) (count number : ℕ) (text : List ℕ) → IsBare (line_begun rules most stop count number text).sent
  line_begun-unnamed stop count number text =
      let fault = long_fault rules number text in
      either IsRunBare (length text == 0) (returning (stop_returned stop)) _ refl
      (either IsRunBare (nat_lt most (count + 1)) (returning (Some (Err TooMany))) _ refl
      (either IsRunBare (nat_lt rules.max_line_len (length text)) _ (returning (stop_returned stop))
      (sending-unnamed (fault_sent rules fault text) (returning (long_returned stop)) (fault-unnamed fault text) refl) refl))

  rest-unnamed : (stop : Stop) (count number : ℕ) (text : List ℕ) → IsBare (regrouped_rest rules most from to stop count number text).sent
  rest-unnamed Ended count number text =
      either IsRunBare (length text == 0) (returning (Some (Ok count))) _ refl
      (sending-unnamed (line_sent rules most from to count number (ended_once rules.line_end false text) text) _
      (line-unnamed count number _ text) refl)
  rest-unnamed stop count number text = line_begun-unnamed stop count number text

  parts-unnamed : (stop : Stop) (count number : ℕ) (parts : List (List ℕ))
      → IsBare (regrouped_parts rules most from to stop count number parts).sent
  parts-unnamed stop count number [] = refl
  parts-unnamed stop count number (rest ∷ []) = rest-unnamed stop count number rest
  parts-unnamed stop count number (text ∷ next ∷ parts) =
      sending-unnamed (line_sent rules most from to count number (ended_by rules.line_end text) text) _ (line-unnamed count number _ text)
      (parts-unnamed stop (count + 1) (line_after rules number text) (next ∷ parts))

-- no writer stops within no text
stops_nowhere : (a b : Option (List ℕ)) → StopsWithin a b [] → ⊥
stops_nowhere a b stops = let split = ap length stops.received.split
    in omega (arith, stops.unfinished, split, length-append stops.received.received stops.rest)

abbrev lines_of : Result Summary Fault → Result ℕ Fault
lines_of result = result_map_both (λ summary. summary.lines) (λ fault. fault) result

abbrev Sent_to : (writer : Writer) → Result Summary Fault → (old new : Writer → Option (List ℕ)) → List ℕ → Type 0
Sent_to writer result old new text = Receives (failed_by result) writer (old writer) (new writer) text

-- so what is returned and written is all that they do
pub Regroups-naming_none : (rules : Rules) (name : List ℕ) (most : ℕ) (from to : NotationData) (r0 r1 : Option (List ℕ)) (old new : Writer
    → Option (List ℕ)) (result : Result Summary Fault) → passes rules.invalid ≡ false →
    RegroupsNaming rules name most from to r0 r1 old new result → Regroups rules most from to r0 r1 (old Output) (new Output)
    (result_map_both (λ summary. summary.lines) (λ fault. fault) result)
Regroups-naming_none rules name most from to r0 r1 old new result aborts all =
    let whole = regrouped rules most from to all.stop all.given in
    let bare = parts-unnamed rules aborts most from to all.stop 0 1 (records_of rules 1 all.given) in
    let received =
    subst (λ (sent : Sent). (w : Writer) → Receives (failed_by result) w (old w) (new w) (text_to name rules.reading from sent w)) bare
    all.received in
    record {
      given = all.given;
      stop = all.stop;
      consumed = all.consumed;
      at_end = all.at_end;
      endless = all.endless;
      unflushed = all.unflushed;
      returned = λ other. (by_other result whole _ all.returned (received Output) (received Messages) (received Rejects) other).0;
      written = λ other. (by_other result whole _ all.returned (received Output) (received Messages) (received Rejects) other).1;
      prefix = by_prefix result _ (received Output);
    }
  where
    by_other : (r : Result Summary Fault) (whole : Regrouped) (text : List ℕ) → Returns whole r → Sent_to Output r old new text
        → Sent_to Messages r old new [] → Sent_to Rejects r old new [] → lines_of r ≢ Err Write →
        (whole.returned ≡ Some (lines_of r)) × Appends (old Output) (new Output) text
    by_other (Ok summary) whole text is sent told rejected other = (is.0, sent)
    by_other (Err Write) whole text is sent told rejected other = absurd (other refl)
    by_other (Err Report) whole text is sent told rejected other = absurd (stops_nowhere _ _ told)
    by_other (Err Reject) whole text is sent told rejected other = absurd (stops_nowhere _ _ rejected)
    by_other (Err fault) whole text is sent told rejected other = (is refl, sent)

    by_prefix : (r : Result Summary Fault) (text : List ℕ) → Sent_to Output r old new text → lines_of r ≡ Err Write
        → StopsWithin (old Output) (new Output) text
    by_prefix (Ok summary) text sent failed = absurd (cc)
    by_prefix (Err Write) text sent failed = sent
    by_prefix (Err fault) text sent failed = absurd (cc)
