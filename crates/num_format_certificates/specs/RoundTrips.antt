-- Formats under which every number reads back from its text.
use Rattle.std.specs.Prelude.{◌≡◌, ℤ}
use Rattle.num_format_text.specs.Format.{FormatData}
pub use Rattle.num_format_int.specs.Grouped.{printed_separator}
use Rattle.num_format_int.specs.Kind.{Kind, IsValueOf, IntegerType, kind_of}
use Rattle.num_format_parsing.specs.Reading.{denoted, Refused}
pub use Rattle.num_format_parsing.specs.Strict.{HasNoNumeral, IsUnambiguous}
use Rattle.num_format_int.specs.Text.{text_of}

-- z reads back as a number of the kind: the text of z is accepted, and denotes z
pub record ReadsBack (k : Kind) (f : FormatData) (z : ℤ) : Type 0 where
  pub accepted : ¬ (Refused k f (text_of f z))
  pub same : denoted f (text_of f z) ≡ z

-- every value of every integer type reads back
abbrev pub RoundTrips : FormatData → Type 0
RoundTrips f = (t : IntegerType) (z : ℤ) → IsValueOf (kind_of t) z → ReadsBack (kind_of t) f z
