-- A list of bytes that is zeros and then a text.
use Rattle.std.proofs.Common.{◌≡◌, ℕ, ◌-◌, ◌≤◌, List, ◌++◌, length, take, drop, arith, length-drop, take-append-drop}
use Rattle.std.specs.Prelude.{replicate}

-- the text begins as many bytes before the end as it has
pub start_of_text : (capacity : ℕ) (xs : List ℕ) (start : ℕ) → start ≤ capacity → length xs ≡ capacity
    → capacity - length (drop start xs) ≡ start
start_of_text capacity xs start within long = omega (arith, length-drop start xs)

-- the list is its text, after as many zeros as there is space for
pub zeros_and_text : (capacity : ℕ) (xs : List ℕ) (start : ℕ) → start ≤ capacity → length xs ≡ capacity → take start xs ≡ replicate start 0
    →
    replicate (capacity - length (drop start xs)) 0 ++ drop start xs ≡ xs
zeros_and_text capacity xs start within long zeros = rw (start_of_text capacity xs start within long, ← zeros, take-append-drop)
