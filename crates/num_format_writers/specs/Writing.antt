-- How much of a text a writer received.
use Rattle.std.specs.Prelude.{◌≡◌, ℕ, ◌<◌, List, ◌++◌, length, Option, Result, OnOk, IfOk, OnErr}
use Rattle.std.specs.Io.KnownBytes.{Appends}

-- of the whole, the writer received all that stands before the rest
pub record HasReceivedUpTo (old new : Option (List ℕ)) (whole rest : List ℕ) : Type 0 where
  pub received : List ℕ
  pub split : received ++ rest ≡ whole
  pub appended : Appends old new received

-- the writer received a prefix of the whole, and not all of it
pub record StopsWithin (old new : Option (List ℕ)) (whole : List ℕ) : Type 0 where
  pub rest : List ℕ
  pub unfinished : 0 < length rest
  pub received : HasReceivedUpTo old new whole rest

-- what a call that writes a text does: on `Ok` the writer received all of the text, and the result is its length in bytes;
-- on `Err` the writer received a prefix of the text, and not all of it
pub record Writes {E : Type 0} (result : Result ℕ E) (old new : Option (List ℕ)) (text : List ℕ) : Type 0 where
  pub whole : OnOk result (Appends old new text)
  pub count : IfOk result (λ count. count ≡ length text)
  pub prefix : OnErr result (StopsWithin old new text)

-- what a call that sends a text does, as `Writes` says it of a call that counts the bytes: on `Ok` the writer received all of the
-- text; on `Err` it received a prefix of the text, and not all of it
pub record Sends {T E : Type 0} (result : Result T E) (old new : Option (List ℕ)) (text : List ℕ) : Type 0 where
  pub whole : OnOk result (Appends old new text)
  pub prefix : OnErr result (StopsWithin old new text)
