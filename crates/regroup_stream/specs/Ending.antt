-- How a run ends: the status, and the message on standard error.
use Rattle.std.specs.Prelude.{◌≡◌, ◌⊎◌, ℕ, Bool, true, false, List, [], ◌++◌, codes, Option, None, Some}
use Rattle.std.specs.Io.KnownBytes.{Appends}
use Rattle.std.specs.declared.io.ErrorKind.{ErrorKind}
use Rattle.std.specs.declared.io.ErrorKind.TheVariants.{BrokenPipe, ConnectionReset, FileTooLarge, FilesystemLoop, Interrupted}
use Rattle.std.specs.declared.io.ErrorKind.TheVariants.{InvalidFilename, InvalidInput, IsADirectory, NotADirectory, NotFound, OutOfMemory}
use Rattle.std.specs.declared.io.ErrorKind.TheVariants.{PermissionDenied, QuotaExceeded, ReadOnlyFilesystem, StorageFull, TimedOut}
use Rattle.std.specs.declared.io.ErrorKind.TheVariants.{WouldBlock, WriteZero}
use Rattle.num_format.specs.Writing.{StopsWithin}
use Rattle.regroup_lines.specs.Ended.{line}
use Rattle.regroup_faults.specs.Messages.{shown_name}
use Rattle.regroup_lines.specs.declared.rules.Invalid.{Invalid}
use Rattle.regroup_lines.specs.declared.rules.Invalid.TheVariants.{Abort, Fail, Warn, Ignore}
use Rattle.regroup_stream.specs.declared.ending.Ending.{Ending}
use Rattle.regroup_stream.specs.declared.ending.Ending.TheVariants as ending

-- how a run ends: each line was regrouped or passed on, and messages may have named faults for which the input is at fault; a line is at
-- fault, which a message names; a read or a write failed, for this reason if it is known, as one of rejected lines, or that of a message;
-- there are more lines than are counted, or the input cannot be opened, or is the output
pub data End : Type 0 where
  Regrouped : End
  Named : End
  Faulty : List ℕ → End
  Untold : End
  ReadFailed : Option ErrorKind → End
  WriteFailed : Option ErrorKind → End
  RejectFailed : Option ErrorKind → End
  TooManyLines : End
  Unopened : ErrorKind → End
  IsOutput : End

-- the `End` of an `Ending`
abbrev pub end_of : Ending → End
end_of ending.Regrouped = Regrouped
end_of ending.Named = Named
end_of (ending.Faulty message) = Faulty message.bytes
end_of ending.Untold = Untold
end_of (ending.ReadFailed kind) = ReadFailed kind
end_of (ending.WriteFailed kind) = WriteFailed kind
end_of (ending.RejectFailed kind) = RejectFailed kind
end_of ending.TooManyLines = TooManyLines
end_of (ending.Unopened kind) = Unopened kind
end_of ending.IsOutput = IsOutput

-- how a run ends after flushes of the output and of rejected lines: as before, or by the first one that failed for this reason
abbrev pub end_after : (unflushed rejects_unflushed : Option ErrorKind) → End → End
end_after (Some kind) rejects_unflushed end = WriteFailed (Some kind)
end_after None (Some kind) end = RejectFailed (Some kind)
end_after None None end = end

-- how a run ends where each line was regrouped or passed on, by whether messages named faults
abbrev pub end_of_lines : Invalid → (has_faults : Bool) → End
end_of_lines Fail true = Named
end_of_lines Fail false = Regrouped
end_of_lines Abort has_faults = Regrouped
end_of_lines Warn has_faults = Regrouped
end_of_lines Ignore has_faults = Regrouped

-- the status: a closed standard output has its own
abbrev pub status_of : End → ℕ
status_of Regrouped = 0
status_of Named = 1
status_of (Faulty message) = 1
status_of Untold = 3
status_of (WriteFailed (Some BrokenPipe)) = 141
status_of (WriteFailed kind) = 3
status_of (RejectFailed kind) = 3
status_of (ReadFailed kind) = 3
status_of TooManyLines = 3
status_of (Unopened kind) = 1
status_of IsOutput = 1

-- what a message says of the kind of an error
abbrev pub reason_of : ErrorKind → List ℕ
reason_of BrokenPipe = codes ": Broken pipe"
reason_of ConnectionReset = codes ": Connection reset by peer"
reason_of FileTooLarge = codes ": File too large"
reason_of FilesystemLoop = codes ": Too many levels of symbolic links"
reason_of Interrupted = codes ": Interrupted system call"
reason_of InvalidFilename = codes ": File name too long"
reason_of InvalidInput = codes ": Invalid argument"
reason_of IsADirectory = codes ": Is a directory"
reason_of NotADirectory = codes ": Not a directory"
reason_of NotFound = codes ": No such file or directory"
reason_of OutOfMemory = codes ": Cannot allocate memory"
reason_of PermissionDenied = codes ": Permission denied"
reason_of QuotaExceeded = codes ": Disk quota exceeded"
reason_of ReadOnlyFilesystem = codes ": Read-only file system"
reason_of StorageFull = codes ": No space left on device"
reason_of TimedOut = codes ": Connection timed out"
reason_of WouldBlock = codes ": Resource temporarily unavailable"
reason_of WriteZero = codes ": No byte was written"
reason_of _ = []

-- the same of a kind that may not be known
abbrev pub known_reason : Option ErrorKind → List ℕ
known_reason (Some kind) = reason_of kind
known_reason None = []

-- the message of a failure, with a name before it
abbrev pub failure_message : (name failure : List ℕ) → Option ErrorKind → List ℕ
failure_message name failure kind = line (codes "regroup-lines: " ++ (shown_name name ++ (failure ++ known_reason kind)))

-- the message of an input of this name on standard error, if there is one: none where standard output was closed
abbrev pub message_of_end : (name : List ℕ) → End → List ℕ
message_of_end name Regrouped = []
message_of_end name Named = []
message_of_end name (Faulty message) = message
message_of_end name Untold = []
message_of_end name (WriteFailed (Some BrokenPipe)) = []
message_of_end name (WriteFailed kind) = failure_message [] (codes "write error") kind
message_of_end name (RejectFailed kind) = failure_message [] (codes "write error of rejected lines") kind
message_of_end name (ReadFailed kind) = failure_message name (codes ": read error") kind
message_of_end name TooManyLines = failure_message name (codes ": too many lines") None
message_of_end name (Unopened kind) = failure_message name (codes ": cannot open") (Some kind)
message_of_end name IsOutput = failure_message name (codes ": input file is output file") None

-- standard error received the message, and the status is this one, or not all of the message could be sent, and it is 3
abbrev pub SendsMessage : (message : List ℕ) → (usual status : ℕ) → (err_old err_new : Option (List ℕ)) → Type 0
SendsMessage message usual status err_old err_new =
    ((status ≡ usual) × Appends err_old err_new message) ⊎ ((status ≡ 3) × StopsWithin err_old err_new message)

-- the same of the message and the status of an end
abbrev pub Finishes : (name : List ℕ) → End → (status : ℕ) → (err_old err_new : Option (List ℕ)) → Type 0
Finishes name end status err_old err_new = SendsMessage (message_of_end name end) (status_of end) status err_old err_new
