-- The decimal digits of a number.
use Rattle.std.specs.Prelude.{ℕ, zero, suc, ◌/◌, ◌%◌, nat_lt, true, false, List, [], ◌∷◌, ◌++◌}

-- n alone below ten, else the digits of n / 10 and then n % 10; `turns` bounds how often that is done
abbrev pub digits_in : ℕ → ℕ → List ℕ
digits_in zero n = n ∷ []
digits_in (suc turns) n = elim (nat_lt n 10) [ true ↦ n ∷ [] | false ↦ digits_in turns (n / 10) ++ (n % 10 ∷ []) ]

-- the decimal digits of n, most significant first: no leading zero, and 0 alone for zero
unfoldable pub digits : ℕ → List ℕ
digits n = digits_in n n
