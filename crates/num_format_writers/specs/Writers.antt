-- What a call of `write_formatted` says of each writer, beside `Writes`.
use Rattle.std.specs.Prelude.{◌≡◌, ℕ, ◌+◌, ◌-◌, ◌<◌, ◌≤◌, ◌↔◌, List, ◌++◌, length, take, drop, Result, IsOk, IfOk, IfErr, OnOk, OnErr}
use Rattle.std.specs.Fmt.{IsPlainFormatter, HasWritten, IsFlush, HasWrittenStyled}
use Rattle.std.specs.Io.Iter.{u64_saturate}
use Rattle.std.specs.IoError.{error_kind}
use Rattle.std.specs.List.{replace_range}
use Rattle.std.specs.declared.fmt.Formatter.{Formatter}
use Rattle.std.specs.declared.io.Error.{Error}
use Rattle.std.specs.declared.io.ErrorKind.TheVariants.{OutOfMemory, WriteZero}

-- a `String` or `Vec<u8>`, by its capacity and its bytes: an error leaves the bytes as they were, comes only where they and the text
-- are longer than the capacity, and says that there is no memory
pub record KeepsOnError (capacity : ℕ) (old text : List ℕ) (result : Result ℕ Error) (new : List ℕ) : Type 0 where
  pub unchanged : OnErr result (new ≡ old)
  pub beyond_capacity : OnErr result (capacity < length old + length text)
  pub kind : IfErr result (λ error. error_kind error ≡ OutOfMemory)

-- a `Formatter`: a plain one passed on the text, and so did one with any width, fill and other options, unless it indents
pub record WritesToFormatter {W : Type 0} (took : W → List ℕ → W → Type 0) (old : Formatter W) (text : List ℕ) (result : Result ℕ Error)
    (new : Formatter W) : Type 0 where
  pub written : OnOk result (IsPlainFormatter old → HasWritten took old text new)
  pub styled : OnOk result (IsFlush old → HasWrittenStyled took old text new)

-- a `Cursor<&mut Vec<u8>>`, by its position: it stands after the text, or on an error, where there is no memory, where it stood
pub record MovesInVector (from : ℕ) (result : Result ℕ Error) (to : ℕ) : Type 0 where
  pub position : IfOk result (λ count. to ≡ u64_saturate (from + count))
  pub unmoved : OnErr result (to ≡ from)
  pub kind : IfErr result (λ error. error_kind error ≡ OutOfMemory)

-- a `Cursor<Vec<u8>>`, by its vector and its position: it moves as one over a borrowed vector, and at the end it appends the text
pub record WritesInVector (old : List ℕ) (from : ℕ) (text : List ℕ) (result : Result ℕ Error) (new : List ℕ) (to : ℕ) : Type 0 where
  pub moves : MovesInVector from result to
  pub at_end : OnOk result (from ≡ length old → new ≡ old ++ text)

-- a space of so many bytes: the call fails exactly where the text is longer, and then for lack of space
pub record FailsForSpace (space : ℕ) (text : List ℕ) (result : Result ℕ Error) : Type 0 where
  pub fits : IsOk result ↔ (length text ≤ space)
  pub kind : IfErr result (λ error. error_kind error ≡ WriteZero)

-- a `&mut [u8]`, by its bytes: it is then the space after the text
pub record WritesToSlice (old text : List ℕ) (result : Result ℕ Error) (new : List ℕ) : Type 0 where
  pub space : FailsForSpace (length old) text result
  pub remaining_space : new ≡ drop (length text) old

-- a `Cursor<BoxedSlice<u8>>`, by its length and its position: it stands after as much of the text as fits
pub record MovesInSlice (len from : ℕ) (text : List ℕ) (result : Result ℕ Error) (to : ℕ) : Type 0 where
  pub space : FailsForSpace (len - from) text result
  pub position : to ≡ u64_saturate (from + length (take (len - from) text))

-- a `Cursor<&mut [u8]>`, by its slice and its position: it moves as one over a boxed slice, and the slice has as much of the text as
-- fits there; past the end of the slice nothing changes
pub record WritesInSlice (old : List ℕ) (from : ℕ) (text : List ℕ) (result : Result ℕ Error) (new : List ℕ) (to : ℕ) : Type 0 where
  pub moves : MovesInSlice (length old) from text result to
  pub written : let prefix = take (length old - from) text in
      from ≤ length old → new ≡ replace_range old from (from + length prefix) prefix
  pub past_end : length old < from → (new ≡ old) × (to ≡ from)
