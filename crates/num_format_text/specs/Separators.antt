-- Where separators stand among the digits of a whole number.
use Rattle.std.specs.Prelude.{◌≡◌, ℕ, ◌-◌, ◌%◌, ◌<◌, ◌≤◌, ◌==◌, ◌⊎◌, nat_lt, nat_le, Bool, false, ◌&&◌, List, []}
use Rattle.num_format_text.specs.declared.grouping.Grouping.{Grouping}
use Rattle.num_format_text.specs.declared.grouping.Grouping.TheVariants.{Standard, Indian, Posix, Myriad, Sparse}
use Rattle.num_format_text.specs.declared.grouping.Sizes.{Sizes}

-- whether a separator stands after a digit that has r digits to its right, in a number of d digits
abbrev pub stands : Grouping → (d r : ℕ) → Bool
stands Standard d r = nat_lt 0 r && (r % 3 == 0)
stands Indian d r = nat_le 3 r && (r % 2 == 1)
stands Posix d r = false
stands Myriad d r = nat_lt 0 r && (r % 4 == 0)
stands Sparse d r = nat_le 5 d && (nat_lt 0 r && (r % 3 == 0))

-- the separator as far as a grouping prints it: nothing under Posix
abbrev pub printed_separator : Grouping → List ℕ → List ℕ
printed_separator Posix separator = []
printed_separator _ separator = separator

-- whether sizes put a separator there: before the last group and before each whole group to its left, in numbers of enough digits
abbrev pub separates : Sizes → (d r : ℕ) → Bool
separates sizes d r = nat_le sizes.least d && (nat_le sizes.last r && ((r - sizes.last) % sizes.size == 0))

-- the sizes for which there is code: two or three digits before a last group of three, and four before four
abbrev pub HaveShape : Sizes → Type 0
HaveShape sizes = ((sizes.last ≡ 3) × (sizes.size ≡ 3)) ⊎ (((sizes.last ≡ 3) × (sizes.size ≡ 2)) ⊎ ((sizes.last ≡ 4) × (sizes.size ≡ 4)))

-- a grouping has groups of these sizes, and prints its separators where they put them
pub record GroupsBy (g : Grouping) (sizes : Sizes) : Type 0 where
  pub shape : HaveShape sizes
  pub beyond : sizes.last < sizes.least
  pub few : sizes.least ≤ 5
  pub same : (d r : ℕ) → r < d → stands g d r ≡ separates sizes d r
  pub printed : (s : List ℕ) → printed_separator g s ≡ s
