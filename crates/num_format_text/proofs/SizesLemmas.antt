-- The sizes of each grouping that has groups.
use Rattle.std.proofs.Common.{◌≡◌, ℕ, List, ◌<◌, ◌≤◌, ◌⊎◌, inl, inr, refl, arith, lit<}
use Rattle.std.proofs.lemmas.Bool.Decides.{nat_tests}
use Rattle.num_format_text.specs.declared.grouping.Grouping.{Grouping}
use Rattle.num_format_text.specs.declared.grouping.Grouping.TheVariants.{Standard, Indian, Posix, Myriad, Sparse}
use Rattle.num_format_text.specs.declared.grouping.Sizes.{Sizes}
use Rattle.num_format_text.specs.Separators.{HaveShape, GroupsBy, stands, separates, printed_separator}

by : (g : Grouping) (sizes : Sizes) → HaveShape sizes → sizes.last < sizes.least → sizes.least ≤ 5
    → ((d r : ℕ) → r < d → stands g d r ≡ separates sizes d r) →
    ((s : List ℕ) → printed_separator g s ≡ s) → (g ≡ Posix) ⊎ ((sizes : Sizes) × GroupsBy g sizes)
by g sizes shape beyond few same printed = inr (sizes, record { shape = shape; beyond = beyond; few = few; same = same; printed = printed })

-- a grouping is Posix, or it has groups
pub grouped_or_not : (g : Grouping) → (g ≡ Posix) ⊎ ((sizes : Sizes) × GroupsBy g sizes)
grouped_or_not Posix = inl refl
grouped_or_not Standard = by Standard (record { last = 3; size = 3; least = 4 }) (inl (refl, refl)) (lit< tt) (omega arith)
    (λ d r inside. grind (arith, nat_tests, inside)) (λ s. refl)
grouped_or_not Indian = by Indian (record { last = 3; size = 2; least = 4 }) (inr (inl (refl, refl))) (lit< tt) (omega arith)
    (λ d r inside. grind (arith, nat_tests, inside)) (λ s. refl)
grouped_or_not Myriad = by Myriad (record { last = 4; size = 4; least = 5 }) (inr (inr (refl, refl))) (lit< tt) (omega arith)
    (λ d r inside. grind (arith, nat_tests, inside)) (λ s. refl)
grouped_or_not Sparse = by Sparse (record { last = 3; size = 3; least = 5 }) (inl (refl, refl)) (lit< tt) (omega arith)
    (λ d r inside. grind (arith, nat_tests, inside)) (λ s. refl)
