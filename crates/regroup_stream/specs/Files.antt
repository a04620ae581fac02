-- The format that a file holds as a JSON object.
use Rattle.std.specs.Prelude.{◌≡◌, ℕ, List, ◌++◌, codes, if◌then◌else◌, Option, None, Some, is_some, Result, Ok, Err, IsUtf8}
use Rattle.std.specs.declared.io.ErrorKind.{ErrorKind}
use Rattle.std.specs.declared.io.ErrorKind.TheVariants.{OutOfMemory}
use Rattle.serde_json.specs.Data.{Data, object, put, string}
use Rattle.serde_json.specs.Find.{get}
use Rattle.serde_json.specs.Read.{read}
use Rattle.num_format.specs.English.{english}
use Rattle.num_format.specs.Format.{FormatData}
use Rattle.num_format.specs.Json.{Fault, fault_of, format_in}
use Rattle.num_format.specs.Json.Fault.{Missing, TooLong, WrongKind}
use Rattle.regroup_faults.specs.Quoting.{quoted}
use Rattle.regroup_stream.specs.Ending.{failure_message}
use Rattle.regroup_stream.specs.declared.files.FileFault.{FileFault}
use Rattle.regroup_stream.specs.declared.files.FileFault.TheVariants as fault

-- why a file holds no format: it cannot be read, is no JSON text, or holds another value; or why it is not that of rejected lines: it
-- cannot be created, or is an input or the output
pub data Unfit : Type 0 where
  Unread : ErrorKind → Unfit
  NotJson : Unfit
  NotFormat : Fault → Unfit
  Uncreated : ErrorKind → Unfit
  InUse : Unfit

-- the `Unfit` of a `FileFault`
abbrev pub unfit_of : FileFault → Unfit
unfit_of (fault.Unread kind) = Unread kind
unfit_of fault.NotJson = NotJson
unfit_of (fault.NotFormat fault) = NotFormat (fault_of fault)
unfit_of (fault.Uncreated kind) = Uncreated kind
unfit_of fault.InUse = InUse

-- the bytes are the text of this JSON value, or of none
abbrev pub IsJson : List ℕ → Option Data → Type 0
IsJson bytes (Some value) = IsUtf8 bytes × (read bytes ≡ Some value)
IsJson bytes None = IsUtf8 bytes → read bytes ≡ None

-- an object with this text at a key; any other value as it is
abbrev pub with_text : (key text : List ℕ) → Data → Data
with_text key text (object members) = object (put key (string text) members)
with_text key text value = value

-- the same of an object that lacks the key
abbrev pub with_text_at : (key text : List ℕ) → Data → Data
with_text_at key text value = if is_some (get key value) then value else with_text key text value

-- a value with the texts of en's format that no decimal needs, where it lacks them
abbrev pub completed : Data → Data
completed value =
    with_text_at (codes "plus") english.plus_sign (with_text_at (codes "nan") english.nan
    (with_text_at (codes "inf") english.infinity value))

-- the format that the bytes hold, or why they hold none: there may be no memory to read them
abbrev pub HoldsFormat : List ℕ → Result FormatData Unfit → Type 0
HoldsFormat bytes (Ok format) = (value : Data) × IsJson bytes (Some value) × (format_in (completed value) ≡ Ok format)
HoldsFormat bytes (Err (NotFormat fault)) = (value : Data) × IsJson bytes (Some value) × (format_in (completed value) ≡ Err fault)
HoldsFormat bytes (Err NotJson) = IsJson bytes None
HoldsFormat bytes (Err (Unread kind)) = kind ≡ OutOfMemory
HoldsFormat bytes (Err (Uncreated kind)) = ⊥
HoldsFormat bytes (Err InUse) = ⊥

-- what is said of a JSON value that holds no format, which names the key that is at fault
abbrev pub json_cause : Fault → List ℕ
json_cause (Missing key) = codes ": no key " ++ quoted key
json_cause (WrongKind key) = codes ": wrong value of key " ++ quoted key
json_cause (TooLong key) = codes ": too long text of key " ++ quoted key
json_cause _ = codes ": not a JSON object"

-- the message of a file of this name that holds no format
abbrev pub unfit_message : (name : List ℕ) → Unfit → List ℕ
unfit_message name (Unread kind) = failure_message name (codes ": cannot read") (Some kind)
unfit_message name NotJson = failure_message name (codes ": not JSON") None
unfit_message name (NotFormat fault) = failure_message name (json_cause fault) None
unfit_message name (Uncreated kind) = failure_message name (codes ": cannot create") (Some kind)
unfit_message name InUse = failure_message name (codes ": rejects file is input or output file") None
