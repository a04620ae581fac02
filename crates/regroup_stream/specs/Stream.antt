-- What the program writes of the lines of an input.
use Rattle.std.specs.Prelude.{◌≡◌, ℕ, ◌-◌, ◌^◌, List, [], Option, None, Result, Ok, Err}
use Rattle.std.specs.declared.io.ErrorKind.{ErrorKind}
use Rattle.regroup_faults.specs.Notation.{NotationData}
use Rattle.regroup_faults.specs.Fault.{Fault}
use Rattle.regroup_faults.specs.Fault.Fault.{TooMany, Read, Write, Report, Reject, Flush}
use Rattle.regroup_faults.specs.Messages.{fault_message}
use Rattle.regroup_lines.specs.Sending.{RegroupsNaming, Writer, by_writer}
use Rattle.regroup_lines.specs.Sending.Writer.{Messages, Output, Rejects}
use Rattle.regroup_lines.specs.declared.Summary.{Summary}
use Rattle.regroup_lines.specs.declared.rules.Rules.{Rules}
use Rattle.regroup_stream.specs.Ending.{End, Finishes, end_after, end_of_lines}
use Rattle.regroup_stream.specs.Ending.End.{Faulty, ReadFailed, RejectFailed, TooManyLines, Untold, WriteFailed}

-- the most lines of an input: as many as are counted
abbrev pub most_lines : ℕ
most_lines = 2 ^ 64 - 1

-- how a run with this result ends, in an input of this name, if its last flush succeeds and a read that failed did so for this reason
abbrev pub end_of_result : Rules → (name : List ℕ) → NotationData → Result Summary Fault → (failure : Option ErrorKind) → End
end_of_result rules name from (Ok summary) failure = end_of_lines rules.invalid summary.has_faults
end_of_result rules name from (Err Read) failure = ReadFailed failure
end_of_result rules name from (Err Write) failure = WriteFailed None
end_of_result rules name from (Err Flush) failure = WriteFailed None
end_of_result rules name from (Err Report) failure = Untold
end_of_result rules name from (Err Reject) failure = RejectFailed None
end_of_result rules name from (Err TooMany) failure = TooManyLines
end_of_result rules name from (Err fault) failure = Faulty (fault_message name rules.reading from fault)

-- what the program does with two formats and an input of this name: standard output received the lines of the bytes that the reader gave,
-- up to the fault that ends it if there is one, and the writer of rejected lines those that are rejected, and nothing of them is left in a
-- buffer unless its last flush failed; standard error received the messages that name the faults that do not
pub record RegroupsAll (rules : Rules) (name : List ℕ) (from to : NotationData) (end : End) (read_old : Option (List ℕ)) (old new : Writer
    → Option (List ℕ)) (held : Writer → List ℕ) : Type 0 where
  pub result : Result Summary Fault
  pub read_new : Option (List ℕ)
  pub failure : Option ErrorKind
  pub unflushed : Option ErrorKind
  pub rejects_unflushed : Option ErrorKind
  pub lines : RegroupsNaming rules name most_lines from to read_old read_new old new result
  pub is : end ≡ end_after unflushed rejects_unflushed (end_of_result rules name from result failure)
  pub flushed : unflushed ≡ None → held Output ≡ []
  pub rejects_flushed : rejects_unflushed ≡ None → held Rejects ≡ []

-- the same, and then the message of how it ends, if there is one, and with which status
pub record Runs (rules : Rules) (from to : NotationData) (name : List ℕ) (status : ℕ) (read_old : Option (List ℕ)) (old new : Writer
    → Option (List ℕ)) (held : Writer → List ℕ) : Type 0 where
  pub end : End
  pub err_named : Option (List ℕ)
  pub regrouped : RegroupsAll rules name from to end read_old old (by_writer (new Output) err_named (new Rejects)) held
  pub finishes : Finishes name end status err_named (new Messages)
