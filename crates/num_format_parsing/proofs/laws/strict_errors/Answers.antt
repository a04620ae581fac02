use Rattle.std.proofs.Common.{◌≡◌, ℕ, zero, suc, ◌^◌, ◌<◌, List, [], ◌∷◌, refl, ap}
use Rattle.std.specs.Hash.{HashWrites, le_bytes}
use Rattle.std.specs.Int.{from_le_bytes, w64}
use Rattle.std.proofs.lemmas.Nat.{from_le_bytes-to_le_bytes_8}
use Rattle.num_format_text.proofs.HashLemmas.{first_byte, hashed_apart}
use Rattle.num_format_parsing.specs.Laws.{HasUsize, StrictErrorHashLaw}
use Rattle.num_format_parsing.specs.declared.error.StrictError.{StrictError}
use Rattle.num_format_parsing.specs.declared.error.StrictError.TheVariants.{AmbiguousFormat, NotUtf8, Unexpected, NoDigit, Misspelled}
use Rattle.num_format_parsing.specs.declared.error.StrictError.TheVariants.{OutOfRange, TooManyDecimals}
use Rattle.num_format_parsing.proofs.laws.strict_errors.Goals as goal

-- the bytes that a hasher is given next
abbrev second_write : HashWrites → List ℕ
second_write (first ∷ (bytes ∷ writes)) = bytes
second_write _ = []

-- the variant of a number, with the place that the bytes write
abbrev variant : ℕ → List ℕ → StrictError
variant zero place = AmbiguousFormat
variant (suc zero) place = NotUtf8
variant (suc (suc zero)) place = Unexpected (from_le_bytes w64 place)
variant (suc (suc (suc zero))) place = NoDigit
variant (suc (suc (suc (suc zero)))) place = TooManyDecimals
variant (suc (suc (suc (suc (suc zero))))) place = Misspelled
variant (suc (suc (suc (suc (suc (suc n)))))) place = OutOfRange

abbrev told_by : HashWrites → StrictError
told_by writes = variant (first_byte writes) (second_write writes)

-- what a hasher is given for an error tells it, if it tells the error at each place
hashed : (input : StrictError → HashWrites) → told_by (input AmbiguousFormat) ≡ AmbiguousFormat → told_by (input NotUtf8) ≡ NotUtf8
    → ((at : ℕ) → at < 2 ^ 64 → told_by (input (Unexpected at)) ≡ Unexpected at) →
    told_by (input NoDigit) ≡ NoDigit → told_by (input TooManyDecimals) ≡ TooManyDecimals
    → told_by (input Misspelled) ≡ Misspelled → told_by (input OutOfRange) ≡ OutOfRange
    → StrictErrorHashLaw input
hashed input ambiguous not_utf8 unexpected no_digit too_many misspelled out_of_range =
    hashed_apart (λ error. error.0) input told_by (λ error. each error.0 error.1)
  where
    each : (e : StrictError) → HasUsize e → told_by (input e) ≡ e
    each AmbiguousFormat place = ambiguous
    each NotUtf8 place = not_utf8
    each (Unexpected at) place = unexpected at place
    each NoDigit place = no_digit
    each TooManyDecimals place = too_many
    each Misspelled place = misspelled
    each OutOfRange place = out_of_range

pub returns-clause-hash : goal.returns-clause-hash
unfolding le_bytes
returns-clause-hash c = hashed _ refl refl (λ at within. ap Unexpected (from_le_bytes-to_le_bytes_8 at within)) refl refl refl refl
