use Rattle.std.proofs.Common.{◌≡◌, ◌∙◌, ℕ, List, [], ◌∷◌, refl, sym, ap, arith}
use Rattle.std.specs.Hash.{HashWrites, le_bytes}
use Rattle.std.specs.Int.{from_le_bytes, w16}
use Rattle.std.proofs.lemmas.Nat.{from_le_bytes-to_le_bytes_2}
use Rattle.num_format_text.proofs.HashLemmas.{hashed_apart}
use Rattle.num_format_locale.specs.Laws.{LocaleHashLaw}
use Rattle.num_format_locale.proofs.NameLemmas.{order}
use Rattle.num_format_locale.proofs.laws.locales.Goals as goal

-- the bytes that a hasher is given first
abbrev first_write : HashWrites → List ℕ
first_write (bytes ∷ writes) = bytes
first_write [] = []

-- what a hasher is given tells the place, if it is its two bytes
hashed : (input : ℕ → HashWrites) → ((place : ℕ) → first_write (input place) ≡ le_bytes 2 place) → LocaleHashLaw input
unfolding le_bytes
hashed input told =
    hashed_apart (λ place. place.0) input (λ writes. from_le_bytes w16 (first_write writes)) (λ place.
    let within = place.1 in ap (from_le_bytes w16) (told place.0) ∙ from_le_bytes-to_le_bytes_2 place.0 (omega arith))

pub returns-clause-order : goal.returns-clause-order
returns-clause-order c = λ p q within_p within_q. sym (order p q within_p within_q)

pub returns-clause-hash : goal.returns-clause-hash
returns-clause-hash c = hashed _ (λ place. refl)
