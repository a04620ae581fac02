-- No text is at fault of a write that failed.
use Rattle.regroup_lines.proofs.Common.{None, failed_writer, ◌≡◌, ℕ, List, Result, Ok, Err, refl, sym, subst, ⊤, NotationData, ended_by}
use Rattle.regroup_lines.proofs.Common.{Fault, Unclosed, body_sent, body_written, fault_named, fault_sent, passed, passes, quotes_in}
use Rattle.regroup_lines.proofs.Common.{record_sent, text_sent, is_open, Rules}
use Rattle.regroup_lines.proofs.ChoiceLemmas.{either}
use Rattle.regroup_lines.proofs.NumberedLemmas.{body-numbered, numbered, with_number-sent}

-- a text is at no fault of a write that failed
abbrev pub IsSent : {T : Type 0} → Result T Fault → Type 0
IsSent (Ok text) = ⊤
IsSent (Err fault) = failed_writer fault ≡ None

numbered-sent : {T : Type 0} (n : ℕ) (written : Result T Fault) → IsSent (numbered n written)
numbered-sent n (Ok text) = tt
numbered-sent n (Err fault) = with_number-sent n fault

pub body_written-sent : (rules : Rules) (from to : NotationData) (number : ℕ) (text : List ℕ)
    → IsSent (body_written rules from to number text)
body_written-sent rules from to number text =
    subst IsSent (sym (body-numbered rules from to number number text refl refl))
    (numbered-sent number (body_written rules from to number text))

-- nor is what is sent of it
fault-sent : (rules : Rules) (fault : Fault) (bytes : List ℕ) → failed_writer fault ≡ None → IsSent (fault_sent rules fault bytes)
fault-sent rules fault bytes sent = either (λ x. IsSent x) (passes rules.invalid)
    (Ok (passed rules.rejects (fault_named rules.invalid fault) bytes)) (Err fault) tt sent

body-sent : (rules : Rules) (text : List ℕ) (body : Result (List ℕ) Fault) → IsSent body → IsSent (body_sent rules text body)
body-sent rules text (Ok body) sent = tt
body-sent rules text (Err fault) sent = fault-sent rules fault (ended_by rules.line_end text) sent

pub text-sent : (rules : Rules) (from to : NotationData) (number : ℕ) (text : List ℕ) → IsSent (text_sent rules from to number text)
text-sent rules from to number text = body-sent rules text _ (body_written-sent rules from to number text)

pub record-sent : (rules : Rules) (from to : NotationData) (number : ℕ) (text : List ℕ) → IsSent (record_sent rules from to number text)
record-sent rules from to number text =
    either (λ x. IsSent x) (is_open (quotes_in rules.span) number text) _ _ (fault-sent rules (Unclosed number) _ refl)
    (text-sent rules from to number text)
