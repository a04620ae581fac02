-- The sums of the lines that a writer received.
use Rattle.std.specs.Prelude.{◌≡◌, ⊤, ℕ, List, [], ◌++◌, Option, None, Some}
use Rattle.num_format.specs.Format.{FormatData}
use Rattle.num_format_decimal.specs.FixedPoint.{FixedPoint}
use Rattle.regroup_stream.specs.Columns.{AreAdded, IsLineOf, IsPastAt, texts_of}
use Rattle.regroup_stream.specs.Words.{plain}
use Rattle.regroup_stream.specs.declared.sums.Unsummed.{Unsummed}
use Rattle.regroup_stream.specs.declared.sums.Unsummed.TheVariants.{Failed, TooLarge}

-- the sums of the columns of lines of numbers, or none where one of them is past 128 bits
pub data SumsTo (format : FormatData) : (bytes : List ℕ) → Option (List (Option FixedPoint)) → Type 0 where
  none : SumsTo format [] (Some [])
  more : (bytes more line : List ℕ) (old new : List (Option FixedPoint)) → SumsTo format bytes (Some old) → IsLineOf more line →
      AreAdded format (texts_of line) old new → SumsTo format (bytes ++ more) (Some new)
  past : (bytes more line : List ℕ) (old : List (Option FixedPoint)) → SumsTo format bytes (Some old) → IsLineOf more line →
      IsPastAt format (texts_of line) old → SumsTo format (bytes ++ more) None
  later : (bytes more : List ℕ) → SumsTo format bytes None → SumsTo format (bytes ++ more) None

-- the sums of the bytes that were received are these, unless that failed
abbrev pub AreSums : FormatData → Option Unsummed → List (Option FixedPoint) → Option (List ℕ) → Type 0
AreSums format failure sums None = ⊤
AreSums format None sums (Some bytes) = SumsTo format bytes (Some sums)
AreSums format (Some TooLarge) sums (Some bytes) = SumsTo format bytes None
AreSums format (Some (Failed kind)) sums (Some bytes) = ⊤

-- the same of numbers in the format `plain`
abbrev pub KeepsSums : FormatData → Option Unsummed → List (Option FixedPoint) → Option (List ℕ) → Type 0
KeepsSums format failure sums received = (plain ≡ Some format) × AreSums format failure sums received
