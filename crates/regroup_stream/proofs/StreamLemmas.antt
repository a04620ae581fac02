-- What the program wrote, after a flush of standard output and of rejected lines.
use Rattle.std.proofs.Common.{◌≡◌, ℕ, List, [], None, Some, Result, subst}
use Rattle.std.specs.Prelude.{Option}
use Rattle.std.specs.Io.KnownBytes.{Keeps}
use Rattle.std.specs.declared.io.ErrorKind.{ErrorKind}
use Rattle.std.proofs.KnownBytes.{Appends-kept}
use Rattle.regroup_faults.specs.Notation.{NotationData}
use Rattle.num_format.specs.Writing.{HasReceivedUpTo}
use Rattle.regroup_faults.specs.Fault.{Fault}
use Rattle.regroup_lines.specs.Lines.{regrouped}
use Rattle.regroup_lines.specs.Sending.{Receives, RegroupsNaming, Writer, by_writer, failed_by, text_to}
use Rattle.regroup_lines.specs.Sending.Writer.{Messages, Output, Rejects}
use Rattle.regroup_lines.specs.declared.Summary.{Summary}
use Rattle.regroup_lines.specs.declared.rules.Rules.{Rules}
use Rattle.regroup_stream.specs.Ending.{End, end_after}
use Rattle.regroup_stream.specs.Stream.{RegroupsAll, end_of_result, most_lines}

-- what a writer received, after a flush
module _ (a b c : Option (List ℕ)) (text : List ℕ) (kept : Keeps b c) where
  HasReceivedUpTo-kept : (rest : List ℕ) → HasReceivedUpTo a b text rest → HasReceivedUpTo a c text rest
  HasReceivedUpTo-kept rest up = record { received = up.received; split = up.split; appended = Appends-kept a b c _ up.appended kept }

  Receives-kept : (failed : Option Writer) (writer : Writer) → Receives failed writer a b text → Receives failed writer a c text
  Receives-kept None writer all = Appends-kept a b c _ all kept
  Receives-kept (Some Output) Output part = record {
    rest = part.rest;
    unfinished = part.unfinished;
    received = HasReceivedUpTo-kept part.rest part.received;
  }
  Receives-kept (Some Messages) Messages part = record {
    rest = part.rest;
    unfinished = part.unfinished;
    received = HasReceivedUpTo-kept part.rest part.received;
  }
  Receives-kept (Some Rejects) Rejects part = record {
    rest = part.rest;
    unfinished = part.unfinished;
    received = HasReceivedUpTo-kept part.rest part.received;
  }
  Receives-kept (Some Output) Messages part = record { rest = part.rest; received = HasReceivedUpTo-kept part.rest part.received }
  Receives-kept (Some Output) Rejects part = record { rest = part.rest; received = HasReceivedUpTo-kept part.rest part.received }
  Receives-kept (Some Messages) Output part = record { rest = part.rest; received = HasReceivedUpTo-kept part.rest part.received }
  Receives-kept (Some Messages) Rejects part = record { rest = part.rest; received = HasReceivedUpTo-kept part.rest part.received }
  Receives-kept (Some Rejects) Output part = record { rest = part.rest; received = HasReceivedUpTo-kept part.rest part.received }
  Receives-kept (Some Rejects) Messages part = record { rest = part.rest; received = HasReceivedUpTo-kept part.rest part.received }

module _ (rules : Rules) (name : List ℕ) (from to : NotationData) (q r s out out_new err rejects rejects_new : Option (List ℕ)) (old : Writer
    → Option (List ℕ)) (result : Result Summary Fault) (same : q ≡ r)
    (lines : RegroupsNaming rules name most_lines from to q s old (by_writer out err rejects) result) (kept : Keeps out out_new)
    (rejects_kept : Keeps rejects rejects_new) where
  received : (writer : Writer) → Receives (failed_by result) writer (old writer) (by_writer out_new err rejects_new writer)
      (text_to name rules.reading from (regrouped rules most_lines from to lines.stop lines.given).sent writer)
  received Output = Receives-kept (old Output) out out_new _ kept (failed_by result) Output (lines.received Output)
  received Messages = lines.received Messages
  received Rejects = Receives-kept (old Rejects) rejects rejects_new _ rejects_kept (failed_by result) Rejects (lines.received Rejects)

  -- the run has the end of the result and the flushes
  pub RegroupsAll-flushed : (end : End) (held : Writer → List ℕ) (failure unflushed rejects_unflushed : Option ErrorKind) →
      end ≡ end_after unflushed rejects_unflushed (end_of_result rules name from result failure) → (unflushed ≡ None → held Output ≡ []) →
      (rejects_unflushed ≡ None → held Rejects ≡ []) → RegroupsAll rules name from to end r old (by_writer out_new err rejects_new) held
  RegroupsAll-flushed end held failure unflushed rejects_unflushed is empty rejects_empty = record {
    result = result;
    read_new = s;
    failure = failure;
    unflushed = unflushed;
    rejects_unflushed = rejects_unflushed;
    lines = subst (λ o. RegroupsNaming rules name most_lines from to o s old (by_writer out_new err rejects_new) result) same (record {
      given = lines.given;
      stop = lines.stop;
      consumed = lines.consumed;
      at_end = lines.at_end;
      endless = lines.endless;
      unflushed = lines.unflushed;
      returned = lines.returned;
      received = received;
    });
    is = is;
    flushed = empty;
    rejects_flushed = rejects_empty;
  }
