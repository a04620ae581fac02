use Rattle.std.proofs.Common.{ℕ, zero, suc, refl}
use Rattle.std.specs.Hash.{le_bytes}
use Rattle.num_format_text.specs.declared.grouping.Grouping.{Grouping}
use Rattle.num_format_text.specs.declared.grouping.Grouping.TheVariants.{Standard, Indian, Posix, Myriad, Sparse}
use Rattle.num_format_text.proofs.HashLemmas.{first_byte, hashed_apart}
use Rattle.num_format_text.proofs.laws.groupings.Goals as goal

-- the variant of a number
abbrev variant : ℕ → Grouping
variant zero = Standard
variant (suc zero) = Indian
variant (suc (suc zero)) = Posix
variant (suc (suc (suc zero))) = Myriad
variant (suc (suc (suc (suc n)))) = Sparse

-- a fact of each of the five is one of all groupings
each : (P : Grouping → Type 0) → P Standard → P Indian → P Posix → P Myriad → P Sparse → (g : Grouping) → P g
each P standard indian posix myriad sparse Standard = standard
each P standard indian posix myriad sparse Indian = indian
each P standard indian posix myriad sparse Posix = posix
each P standard indian posix myriad sparse Myriad = myriad
each P standard indian posix myriad sparse Sparse = sparse

pub returns-clause-hash : goal.returns-clause-hash
unfolding le_bytes
returns-clause-hash c = hashed_apart (λ g. g) _ (λ writes. variant (first_byte writes)) (each _ refl refl refl refl refl)
