-- What the two writers received of an output.
use Rattle.std.specs.Prelude.{◌≡◌, ℕ, ◌<◌, List, ◌++◌, length, Option, Result, Ok, IfOk, OnOk, OnErr}
use Rattle.std.specs.Io.KnownBytes.{Appends}
use Rattle.num_format.specs.Refusal.{Refusal}
use Rattle.num_format.specs.Writing.{HasReceivedUpTo, Sends}
use Rattle.regroup_commands.specs.Output.{Output}

-- a call sent the lines of a request that has no error
pub record SendsLines {T E : Type 0} (result : Result T E) (old new : Option (List ℕ)) (lines : Result (List ℕ) Refusal) : Type 0 where
  pub text : List ℕ
  pub is : lines ≡ Ok text
  pub sends : Sends result old new text

-- each writer received exactly its bytes of the output
pub record IsSent (output : Output) (out_old out_new err_old err_new : Option (List ℕ)) : Type 0 where
  pub stdout : Appends out_old out_new output.stdout
  pub stderr : Appends err_old err_new output.stderr

-- each writer received a prefix of its bytes of the output, and not both received all
pub record StopsShort (output : Output) (out_old out_new err_old err_new : Option (List ℕ)) : Type 0 where
  pub stdout_rest : List ℕ
  pub stderr_rest : List ℕ
  pub stdout : HasReceivedUpTo out_old out_new output.stdout stdout_rest
  pub stderr : HasReceivedUpTo err_old err_new output.stderr stderr_rest
  pub unfinished : 0 < length (stdout_rest ++ stderr_rest)

-- what a call that sends an output does: on `Ok` it returns the status and each writer received its bytes; on `Err` it stopped short
pub record SendsOutput {E : Type 0} (result : Result ℕ E) (output : Output)
    (out_old out_new err_old err_new : Option (List ℕ)) : Type 0 where
  pub status : IfOk result (λ status. status ≡ output.status)
  pub sent : OnOk result (IsSent output out_old out_new err_old err_new)
  pub failed : OnErr result (StopsShort output out_old out_new err_old err_new)
