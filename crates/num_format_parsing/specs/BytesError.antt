-- The errors of parsing bytes, and their messages.
use Rattle.std.specs.Prelude.{ℕ, List, codes}
use Rattle.num_format_parsing.specs.declared.error.ParseBytesError.{ParseBytesError}
use Rattle.num_format_parsing.specs.declared.error.ParseBytesError.TheVariants.{NotUtf8, NotANumber}

-- the message of an error
abbrev pub bytes_message_of : ParseBytesError → List ℕ
bytes_message_of NotUtf8 = codes "The bytes are not UTF-8."
bytes_message_of NotANumber = codes "The text is no number of the type."
