-- What `==`, `clone` and `hash` of a type say, where clauses compare what they see of a value by `≡`.
use Rattle.std.specs.Prelude.{◌≡◌, ◌↔◌, Bool, IsTrue}
use Rattle.std.specs.Hash.{HashWrites}

-- two values are equal exactly if a clause sees the same of both; a clone shows the same as its source, and never fails
pub record EqualityLaw {X Y : Type 0} (seen : X → Y) (eq : X → X → Bool) (is_clone : X → X → Type 0) (is_infallible : X
    → Type 0) : Type 0 where
  pub equal : (x y : X) → IsTrue (eq x y) ↔ (seen x ≡ seen y)
  pub clone : (x y : X) → is_clone x y → seen y ≡ seen x
  pub never_refused : (x : X) → is_infallible x

-- a hasher is given the same for two values exactly if a clause sees the same of both
pub record HashLaw {X Y : Type 0} (seen : X → Y) (hash_input : X → HashWrites) : Type 0 where
  pub alike : (x y : X) → seen x ≡ seen y → hash_input x ≡ hash_input y
  pub distinct : (x y : X) → hash_input x ≡ hash_input y → seen x ≡ seen y
