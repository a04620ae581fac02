-- What writers received of the lines and of the messages that name their faults.
use Rattle.std.specs.Prelude.{◌≡◌, ◌≢◌, ℕ, ◌-◌, ◌^◌, ◌≤◌, Bool, true, false, if◌then◌else◌, List, [], ◌∷◌, ◌++◌, length, Option, None, Some}
use Rattle.std.specs.Prelude.{Result, Ok, Err, is_some}
use Rattle.std.specs.Io.KnownBytes.{Appends, Consumes, IsAtEnd}
use Rattle.regroup_faults.specs.Notation.{NotationData}
use Rattle.num_format.specs.Writing.{HasReceivedUpTo, StopsWithin}
use Rattle.regroup_lines.specs.Ended.{ended_by}
use Rattle.regroup_faults.specs.Fault.{Fault, are_any}
use Rattle.regroup_faults.specs.Fault.Fault.{Reject, Report, Write}
use Rattle.regroup_lines.specs.Input.{IsLong, IsStop, Reads, stop_result, stop_text}
use Rattle.regroup_lines.specs.Lines.{Regrouped, Sent, Stop, line_after, quotes_in, regrouped}
use Rattle.regroup_lines.specs.Lines.Stop.{Ended, Endless, Unflushed}
use Rattle.regroup_faults.specs.Messages.{messages}
use Rattle.regroup_lines.specs.Records.{is_open}
use Rattle.regroup_lines.specs.declared.Summary.{Summary}
use Rattle.regroup_faults.specs.declared.Reading.{Reading}
use Rattle.regroup_lines.specs.declared.rules.Rules.{Rules}

-- the writers: of the output, of the messages that name faults, and of rejected lines
pub data Writer : Type 0 where
  Output : Writer
  Messages : Writer
  Rejects : Writer

-- what belongs to each
abbrev pub by_writer : {T : Type 0} → (output messages rejects : T) → Writer → T
by_writer output messages rejects Output = output
by_writer output messages rejects Messages = messages
by_writer output messages rejects Rejects = rejects

-- the text that is sent to each
abbrev pub text_to : (name : List ℕ) → Reading → NotationData → Sent → Writer → List ℕ
text_to name reading from sent Output = sent.written
text_to name reading from sent Messages = messages name reading from sent.named
text_to name reading from sent Rejects = sent.rejected

-- the writer to which a write failed, if that is the fault
abbrev pub failed_writer : Fault → Option Writer
failed_writer Write = Some Output
failed_writer Report = Some Messages
failed_writer Reject = Some Rejects
failed_writer fault = None

-- the same of what is returned
abbrev pub failed_by : {T : Type 0} → Result T Fault → Option Writer
failed_by (Ok value) = None
failed_by (Err fault) = failed_writer fault

-- the writer received a prefix of the text, or all of it
pub record ReceivesPrefix (old new : Option (List ℕ)) (text : List ℕ) : Type 0 where
  pub rest : List ℕ
  pub received : HasReceivedUpTo old new text rest

-- what a writer received of a text: all of it, but where a write failed a prefix, and not all of it if it was to this writer
abbrev pub Receives : (failed : Option Writer) → Writer → (old new : Option (List ℕ)) → List ℕ → Type 0
Receives None writer old new text = Appends old new text
Receives (Some Output) Output old new text = StopsWithin old new text
Receives (Some Messages) Messages old new text = StopsWithin old new text
Receives (Some Rejects) Rejects old new text = StopsWithin old new text
Receives (Some failed) writer old new text = ReceivesPrefix old new text

-- what each writer received of the text for it
abbrev pub ReceivesEach : (failed : Option Writer) → (old new : Writer → Option (List ℕ)) → (Writer → List ℕ) → Type 0
ReceivesEach failed old new text = (writer : Writer) → Receives failed writer (old writer) (new writer) (text writer)

-- bytes at fault for each writer: they are rejected or else written
abbrev pub bytes_to : (rejects : Bool) → List ℕ → Writer → List ℕ
bytes_to rejects bytes = by_writer (if rejects then [] else bytes) [] (if rejects then bytes else [])

-- what each writer received of them, whatever that of messages has
abbrev pub ReceivesBytes : (rejects : Bool) → (failed : Option Writer) → (old new : Option (List ℕ) → Writer → Option (List ℕ)) → List ℕ
    → Type 0
ReceivesBytes rejects failed old new bytes = (told : Option (List ℕ)) → ReceivesEach failed (old told) (new told) (bytes_to rejects bytes)

-- what a call that sends them does
abbrev pub SendsBytes : {T : Type 0} → (rejects : Bool) → (old new : Option (List ℕ) → Writer → Option (List ℕ)) → List ℕ → Result T Fault
    → Type 0
SendsBytes rejects old new bytes (Ok sent) = ReceivesBytes rejects None old new bytes
SendsBytes rejects old new bytes (Err fault) = (is_some (failed_writer fault) ≡ true)
    × ReceivesBytes rejects (failed_writer fault) old new bytes

-- what a call that passes on a record that is too long does, of which these bytes were held at first: it sends the record up to the byte
-- that ends it, and these are left, or up to where the reader stopped; it returns whether the input ended, and the number of its line goes
-- on to that of the next record
pub data PassesLong (rules : Rules) (number_old number_new : ℕ) (begun left : List ℕ) (read_old read_new : Option (List ℕ))
    (old new : Option (List ℕ) → Writer → Option (List ℕ)) (result : Result Bool Fault) : Type 0 where
  to_end : (text : List ℕ) → Reads begun (text ++ rules.line_end ∷ left) read_old read_new → IsLong rules number_old text
      → is_open (quotes_in rules.span) number_old text ≡ false →
      ReceivesBytes rules.rejects (failed_by result) old new (ended_by rules.line_end text)
      → (failed_by result ≡ None → (result ≡ Ok false) × (number_new ≡ line_after rules number_old text)) →
      PassesLong rules number_old number_new begun left read_old read_new old new result
  to_stop : (stop : Stop) (text : List ℕ) → Reads begun text read_old read_new → IsLong rules number_old text
      → IsStop rules.flushes stop text read_new →
      ReceivesBytes rules.rejects (failed_by result) old new (stop_text rules.line_end stop text)
      → (failed_by result ≡ None → stop_result stop ≡ Some result) →
      PassesLong rules number_old number_new begun left read_old read_new old new result

-- what a call that sends a line does: a fault in place of the line is returned, and nothing is sent
abbrev pub SendsLine : {T : Type 0} → (line_end : ℕ) → Result (List ℕ) Fault → Option (List ℕ) → Option (List ℕ) → Result T Fault → Type 0
SendsLine line_end (Ok text) old new (Ok sent) = Appends old new (ended_by line_end text)
SendsLine line_end (Ok text) old new (Err fault) = (fault ≡ Write) × StopsWithin old new (ended_by line_end text)
SendsLine line_end (Err fault) old new (Ok sent) = ⊥
SendsLine line_end (Err fault) old new (Err returned) = (returned ≡ fault) × (new ≡ old)

-- what a call that sends a line to the writers does, with the messages that have this name, and whether it names a fault: a fault in place
-- of the line is returned, and nothing is sent
abbrev pub SendsEach : (name : List ℕ) → Reading → NotationData → Result Sent Fault → (old new : Writer → Option (List ℕ)) → Result Bool Fault
    → Type 0
SendsEach name reading from (Ok sent) old new (Ok any) = (any ≡ are_any sent.named)
    × ReceivesEach None old new (text_to name reading from sent)
SendsEach name reading from (Ok sent) old new (Err fault) =
    (is_some (failed_writer fault) ≡ true) × ReceivesEach (failed_writer fault) old new (text_to name reading from sent)
SendsEach name reading from (Err fault) old new (Ok any) = ⊥
SendsEach name reading from (Err fault) old new (Err returned) = (returned ≡ fault) × ((writer : Writer) → new writer ≡ old writer)

-- what a call that sends the messages `told` does, and whether there are any
abbrev pub Names : (told : List ℕ) → (any : Bool) → (told_old told_new : Option (List ℕ)) → Result Bool Fault → Type 0
Names told any told_old told_new (Ok result) = (result ≡ any) × Appends told_old told_new told
Names told any told_old told_new (Err fault) = (fault ≡ Report) × StopsWithin told_old told_new told

-- what is returned of lines: how many there are and whether a fault is named, or the fault, unless it is that of a failed write
abbrev pub Returns : Regrouped → Result Summary Fault → Type 0
Returns all (Ok summary) = (all.returned ≡ Some (Ok summary.lines)) × (summary.has_faults ≡ are_any all.sent.named)
Returns all (Err fault) = failed_writer fault ≡ None → all.returned ≡ Some (Err fault)

-- what a call that regroups this many lines at most of an input of this name does: the result, and what the writers received, are those
-- of the bytes that the reader gave, by how it stopped
pub record RegroupsNaming (rules : Rules) (name : List ℕ) (most : ℕ) (from to : NotationData) (read_old read_new : Option (List ℕ))
    (old new : Writer → Option (List ℕ)) (result : Result Summary Fault) : Type 0 where
  pub given : List ℕ
  pub stop : Stop
  pub consumed : Consumes read_old read_new given
  pub at_end : stop ≡ Ended → IsAtEnd read_new
  pub endless : stop ≡ Endless → 2 ^ 64 - 1 ≤ length given
  pub unflushed : stop ≡ Unflushed → rules.flushes ≡ true
  pub returned : Returns (regrouped rules most from to stop given) result
  pub received : ReceivesEach (failed_by result) old new (text_to name rules.reading from (regrouped rules most from to stop given).sent)

-- what a call that regroups this many lines at most and names no fault does: the result, and what the writer received, are those of the
-- bytes that the reader gave, by how it stopped; where the result is `Write`, the writer received a prefix, and not all
pub record Regroups (rules : Rules) (most : ℕ) (from to : NotationData) (read_old read_new sent_old sent_new : Option (List ℕ))
    (result : Result ℕ Fault) : Type 0 where
  pub given : List ℕ
  pub stop : Stop
  pub consumed : Consumes read_old read_new given
  pub at_end : stop ≡ Ended → IsAtEnd read_new
  pub endless : stop ≡ Endless → 2 ^ 64 - 1 ≤ length given
  pub unflushed : stop ≡ Unflushed → rules.flushes ≡ true
  pub returned : result ≢ Err Write → (regrouped rules most from to stop given).returned ≡ Some result
  pub written : result ≢ Err Write → Appends sent_old sent_new (regrouped rules most from to stop given).sent.written
  pub prefix : result ≡ Err Write → StopsWithin sent_old sent_new (regrouped rules most from to stop given).sent.written
