-- When different values are hashed differently.
use Rattle.std.proofs.Common.{◌≡◌, ◌∙◌, ℕ, [], ◌∷◌, sym, ap}
use Rattle.std.specs.Hash.{HashWrites}
use Rattle.num_format_text.specs.Equality.{HashLaw}

-- the first byte that a hasher is given, which is the number of the variant of an enum
abbrev pub first_byte : HashWrites → ℕ
first_byte ((byte ∷ bytes) ∷ writes) = byte
first_byte ([] ∷ writes) = 0
first_byte [] = 0

-- a hasher is given the same for two values exactly if a clause sees the same of both, if what it is given tells what a clause sees
pub hashed_apart : {X Y : Type 0} (seen : X → Y) (input : Y → HashWrites) (told_by : HashWrites → Y)
    → ((x : X) → told_by (input (seen x)) ≡ seen x) → HashLaw seen (λ x. input (seen x))
hashed_apart seen input told_by told = record {
  alike = λ x y same. ap input same;
  distinct = λ x y same. sym (told x) ∙ ap told_by same ∙ told y;
}
