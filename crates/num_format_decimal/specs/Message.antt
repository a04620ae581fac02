-- Why a decimal is refused, in words.
use Rattle.std.specs.Prelude.{ℕ, List, codes}
use Rattle.num_format_decimal.specs.declared.error.DecimalError.{DecimalError}
use Rattle.num_format_decimal.specs.declared.error.DecimalError.TheVariants.{ScaleTooLarge, DigitsLost, OutOfRange}

-- the message of an error
abbrev pub message_of : DecimalError → List ℕ
message_of ScaleTooLarge = codes "The scale is larger than 38."
message_of DigitsLost = codes "Digits would be lost at that scale."
message_of OutOfRange = codes "The units are out of range."
