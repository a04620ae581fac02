use Rattle.std.proofs.Common.{ℕ, zero, suc, refl}
use Rattle.std.specs.Hash.{le_bytes}
use Rattle.num_format_text.proofs.HashLemmas.{first_byte, hashed_apart}
use Rattle.num_format_parsing.specs.declared.error.ParseBytesError.{ParseBytesError}
use Rattle.num_format_parsing.specs.declared.error.ParseBytesError.TheVariants.{NotUtf8, NotANumber}
use Rattle.num_format_parsing.proofs.laws.bytes_errors.Goals as goal

-- the variant of a number
abbrev variant : ℕ → ParseBytesError
variant zero = NotUtf8
variant (suc n) = NotANumber

-- a fact of both is one of all errors
each : (P : ParseBytesError → Type 0) → P NotUtf8 → P NotANumber → (e : ParseBytesError) → P e
each P not_utf8 not_a_number NotUtf8 = not_utf8
each P not_utf8 not_a_number NotANumber = not_a_number

pub returns-clause-hash : goal.returns-clause-hash
unfolding le_bytes
returns-clause-hash c = hashed_apart (λ e. e) _ (λ writes. variant (first_byte writes)) (each _ refl refl)
