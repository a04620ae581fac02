-- Examples of the definitions, each shown by computing it.
use Rattle.std.proofs.Common.{◌≡◌, [], refl}
use Rattle.std.specs.Prelude.{codes}
use Rattle.std.specs.Fmt.{digits}
use Rattle.num_format_text.specs.Cut.{cut_text}
use Rattle.num_format_text.specs.Refusal.{message_of, Capacity, ParseLocale, ParseNumber}

capacity_message : message_of (Capacity 9 8)
    ≡ codes "Attempted to write input of length 9 bytes into a buffer with capacity 8 bytes."
unfolding digits
capacity_message = refl

locale_message : message_of (ParseLocale (codes "123456789")) ≡ codes "Failed to parse 123456789 into a valid locale."
locale_message = refl

number_message : message_of (ParseNumber []) ≡ codes "Failed to parse  into a number."
number_message = refl

short_text_stays_whole : cut_text (codes "ca-ES_VALENCIA") ≡ codes "ca-ES_VALENCIA"
unfolding cut_text
short_text_stays_whole = refl
