-- Laws of parsing and of its errors.
use Rattle.std.specs.Prelude.{◌≡◌, ◌↔◌, IsTrue, ℕ, ◌^◌, ◌<◌, List}
use Rattle.std.specs.Hash.{HashWrites}
use Rattle.num_format_text.specs.Equality.{HashLaw}
use Rattle.num_format_text.specs.Format.{FormatData}
use Rattle.num_format_int.specs.Kind.{I128, Kind, kind_of}
use Rattle.num_format_parsing.specs.Readable.{is_readable}
use Rattle.num_format_parsing.specs.Reading.{denoted, Refused}
use Rattle.num_format_parsing.specs.declared.error.StrictError.{StrictError}
use Rattle.num_format_parsing.specs.declared.error.StrictError.TheVariants.{Unexpected}

-- of the data of a format, the minus sign alone decides which number a text denotes, and whether the text is refused
pub record MinusSignLaw : Type 0 where
  pub number : (f g : FormatData) (text : List ℕ) → f.minus_sign ≡ g.minus_sign → denoted f text ≡ denoted g text
  pub refused : (k : Kind) (f g : FormatData) (text : List ℕ) → f.minus_sign ≡ g.minus_sign → Refused k f text ↔ Refused k g text

-- a text is readable exactly if it is not refused as an i128
abbrev pub ReadableLaw : Type 0
ReadableLaw = (format : FormatData) (text : List ℕ) → IsTrue (is_readable format text) ↔ ¬ (Refused (kind_of I128) format text)

-- the place in an error is a `usize`
abbrev pub HasUsize : StrictError → Type 0
HasUsize (Unexpected at) = at < 2 ^ 64
HasUsize _ = Unit {0}

-- a hasher is given the same for two errors exactly if they are the same
abbrev pub StrictErrorHashLaw : (StrictError → HashWrites) → Type 0
StrictErrorHashLaw hash_input = HashLaw {X = (error : StrictError) × HasUsize error} (λ error. error.0) (λ error. hash_input error.0)
