-- Errors as clauses compare them, and their messages.
use Rattle.std.specs.Prelude.{ℕ, ◌^◌, ◌<◌, List, ◌++◌, codes}
use Rattle.std.specs.Fmt.{decimal}
use Rattle.std.specs.Hash.{HashWrites}
use Rattle.num_format_text.specs.Equality.{HashLaw}
use Rattle.num_format_text.specs.declared.error_kind.ErrorKind.{ErrorKind}
use Rattle.num_format_text.specs.declared.error_kind.ErrorKind.TheVariants as kind

-- a kind of error; a text that it keeps is the list of its bytes
pub data Refusal : Type 0 where
  Capacity : ℕ → ℕ → Refusal
  Other : List ℕ → Refusal
  ParseLocale : List ℕ → Refusal
  ParseNumber : List ℕ → Refusal

-- the `Refusal` of an `ErrorKind`: a text without the unused bytes of its array
abbrev pub refusal_of : ErrorKind → Refusal
refusal_of (kind.Capacity len cap) = Capacity len cap
refusal_of (kind.Other text) = Other text.bytes
refusal_of (kind.ParseLocale text) = ParseLocale text.bytes
refusal_of (kind.ParseNumber text) = ParseNumber text.bytes

-- each length in an error is a `usize`
abbrev pub HasUsizes : Refusal → Type 0
HasUsizes (Capacity len cap) = (len < 2 ^ 64) × (cap < 2 ^ 64)
HasUsizes _ = Unit {0}

-- a hasher is given the same for two errors exactly if they have the same kind, with the same lengths or the same text
abbrev pub ErrorHashLaw : (ErrorKind → HashWrites) → Type 0
ErrorHashLaw hash_input = HashLaw {X = (kind : ErrorKind) × HasUsizes (refusal_of kind)} (λ kind. refusal_of kind.0)
    (λ kind. hash_input kind.0)

-- the message of an error; lengths are in decimal
abbrev pub message_of : Refusal → List ℕ
message_of (Capacity len cap) =
    codes "Attempted to write input of length " ++ (decimal len
    ++ (codes " bytes into a buffer with capacity " ++ (decimal cap ++ codes " bytes.")))
message_of (Other message) = message
message_of (ParseLocale text) = codes "Failed to parse " ++ (text ++ codes " into a valid locale.")
message_of (ParseNumber text) = codes "Failed to parse " ++ (text ++ codes " into a number.")
