-- Laws of grouped digits.
use Rattle.std.proofs.Common.{◌≡◌, ℕ, zero, suc, ◌+◌, ◌-◌, ◌*◌, ◌/◌, ◌<◌, ◌≤◌, inl, inr, Bool, true, false, List, [], ◌∷◌, ◌++◌, length}
use Rattle.std.proofs.Common.{refl, ap, ◌∙◌, sym, arith, length-append}
use Rattle.std.specs.Prelude.{nat_le, nat_lt, if◌then◌else◌}
use Rattle.std.proofs.lemmas.Bool.{cases_lt}
use Rattle.std.proofs.lemmas.Bool.Decides.{nat_tests}
use Rattle.std.proofs.lemmas.List.{nil_from_length}
use Rattle.std.proofs.Math.Nat.{mul-le-mul}
use Rattle.num_format_text.specs.declared.grouping.Grouping.{Grouping}
use Rattle.num_format_text.specs.declared.grouping.Grouping.TheVariants.{Posix}
use Rattle.num_format_text.specs.declared.grouping.Sizes.{Sizes}
use Rattle.num_format_text.specs.Separators.{GroupsBy, HaveShape, separates}
use Rattle.num_format_text.proofs.SizesLemmas.{grouped_or_not}
use Rattle.num_format_int.specs.Grouped.{stands, separated, grouped, separators, separators_within, printed_separator}
use Rattle.num_format_int.specs.Groups.{plain}

-- digits with separators are the same for what is due alike
pub separated-same : (p q : ℕ → Bool) (s ds : List ℕ) → ((r : ℕ) → r < length ds → p r ≡ q r) → separated p s ds ≡ separated q s ds
separated-same p q s [] same = refl
separated-same p q s (d ∷ ds) same = rw (same (length ds) (omega arith), separated-same p q s ds (λ r inside. same r (omega arith)))

within-same : (p q : ℕ → Bool) (d : ℕ) → ((r : ℕ) → r < d → p r ≡ q r) → separators_within p d ≡ separators_within q d
within-same p q zero same = refl
within-same p q (suc d) same = rw (same d (omega arith), within-same p q d (λ r inside. same r (omega arith)))

-- a grouping separates digits as its sizes do
pub grouped-by : (g : Grouping) (sizes : Sizes) → GroupsBy g sizes → (s ds : List ℕ)
    → grouped g s ds ≡ separated (separates sizes (length ds)) s ds
grouped-by g sizes by s ds = separated-same (stands g (length ds)) (separates sizes (length ds)) s ds (by.same (length ds))

within-by : (sizes : Sizes) → HaveShape sizes → (d r : ℕ) → sizes.least ≤ d
    → separators_within (separates sizes d) r ≡ (if nat_lt sizes.last r then suc ((r - sizes.last - 1) / sizes.size) else 0)
within-by sizes shape d zero many = grind (arith, nat_tests)
within-by sizes shape d (suc r) many =
    let before = within-by sizes shape d r many in grind (arith, nat_tests, shape, before, many)

within-none : (is_due : ℕ → Bool) (d : ℕ) → ((r : ℕ) → r < d → is_due r ≡ false) → separators_within is_due d ≡ 0
within-none is_due zero none = refl
within-none is_due (suc d) none = rw (none d (omega arith), within-none is_due d (λ r inside. none r (omega arith)))

-- a number with fewer digits than the least has no separator
pub separates-few : (sizes : Sizes) (d r : ℕ) → d < sizes.least → separates sizes d r ≡ false
separates-few sizes d r few = let test : nat_le sizes.least d ≡ false = grind (arith, nat_tests) in rw test

-- among fewer digits than the least stands no separator
pub separators-few : (g : Grouping) (sizes : Sizes) → GroupsBy g sizes → (d : ℕ) → d < sizes.least → separators g d ≡ 0
separators-few g sizes by d few = within-none (stands g d) d (λ r inside. by.same d r inside ∙ separates-few sizes d r few)

-- among as many or more, one stands before the last group, and one before each whole group to its left
pub separators-many : (g : Grouping) (sizes : Sizes) → GroupsBy g sizes → (d : ℕ) → sizes.least ≤ d
    → separators g d ≡ suc ((d - sizes.last - 1) / sizes.size)
separators-many g sizes by d many =
    let long : nat_lt sizes.last d ≡ true = grind (arith, nat_tests, by.beyond) in
    within-same (stands g d) (separates sizes d) d (by.same d) ∙ within-by sizes by.shape d d many ∙ rw long refl

-- Posix has none
pub separators-none : (g : Grouping) → g ≡ Posix → (d : ℕ) → separators g d ≡ 0
separators-none g none d = within-none (stands g d) d (λ r inside. ap (λ k. stands k d r) none)

length-when : (b : Bool) (s : List ℕ) → length (if b then s else []) ≡ (if b then 1 else 0) * length s
length-when true s = omega arith
length-when false s = omega arith

length-separated : (is_due : ℕ → Bool) (s ds : List ℕ) → length (separated is_due s ds)
    ≡ length ds + separators_within is_due (length ds) * length s
length-separated is_due s [] = omega arith
length-separated is_due s (d ∷ ds) =
    simp (length-append, length-when (is_due (length ds)) s, length-separated is_due s ds) (omega arith)

-- the length of grouped digits
pub length-grouped : (g : Grouping) (s ds : List ℕ) → length (grouped g s ds) ≡ length ds + separators g (length ds) * length s
length-grouped g s ds = length-separated (stands g (length ds)) s ds

count-le18 : (sizes : Sizes) → HaveShape sizes → (d : ℕ) → d ≤ 39 → suc ((d - sizes.last - 1) / sizes.size) ≤ 18
count-le18 sizes shape d few = grind (arith, shape)

-- among 39 digits stand at most 18 separators
pub separators-le18 : (g : Grouping) (d : ℕ) → d ≤ 39 → separators g d ≤ 18
separators-le18 g d few =
    elim (grouped_or_not g) [
      | inl none ↦ omega (arith, separators-none g none d)
      | inr (sizes, by) ↦ elim (cases_lt d sizes.least) [
        | inl less ↦ omega (arith, separators-few g sizes by d less)
        | inr many ↦ omega (arith, separators-many g sizes by d many, count-le18 sizes by.shape d few)
      ]
    ]

-- 39 digits, with a separator of eight bytes, take at most 183 bytes
pub length-grouped-le183 : (g : Grouping) (s ds : List ℕ) → length s ≤ 8 → length ds ≤ 39 → length (grouped g s ds) ≤ 183
length-grouped-le183 g s ds short few =
    omega (arith, length-grouped g s ds, mul-le-mul (separators-le18 g (length ds) few) short)

-- digits among which no separator stands
pub separated-plain : (is_due : ℕ → Bool) (s ds : List ℕ) → ((k : ℕ) → k < length ds → is_due k ≡ false) → separated is_due s ds ≡ plain ds
separated-plain is_due s [] none = refl
separated-plain is_due s (d ∷ ds) none =
    rw (none (length ds) (omega arith), separated-plain is_due s ds (λ k below. none k (omega arith)))

-- under Posix no digits have a separator
pub grouped-none : (g : Grouping) → g ≡ Posix → (s ds : List ℕ) → grouped g s ds ≡ plain ds
grouped-none g none s ds = separated-plain (stands g (length ds)) s ds (λ r inside. ap (λ k. stands k (length ds) r) none)

pub grouped-Posix : (s ds : List ℕ) → grouped Posix s ds ≡ plain ds
grouped-Posix s ds = grouped-none Posix refl s ds

-- nor have fewer digits than the shortest number that has one
pub grouped-few : (g : Grouping) (sizes : Sizes) → GroupsBy g sizes → (s ds : List ℕ) → length ds < sizes.least → grouped g s ds ≡ plain ds
grouped-few g sizes by s ds few = separated-plain (stands g (length ds)) s ds (λ r inside. by.same (length ds) r inside
    ∙ separates-few sizes (length ds) r few)

last-least3 : (sizes : Sizes) → HaveShape sizes → 3 ≤ sizes.last
last-least3 sizes shape = omega (arith, shape)

-- no separator stands after the last digit
pub stands-last : (g : Grouping) (d : ℕ) → 0 < d → stands g d 0 ≡ false
stands-last g d some =
    elim (grouped_or_not g) [
      | inl none ↦ ap (λ k. stands k d 0) none
      | inr (sizes, by) ↦ by.same d 0 some ∙ grind (arith, nat_tests, last-least3 sizes by.shape)
    ]

-- up to three digits have none under any grouping
pub grouped-short : (g : Grouping) (s ds : List ℕ) → length ds ≤ 3 → grouped g s ds ≡ plain ds
grouped-short g s ds few =
    elim (grouped_or_not g) [
      | inl none ↦ grouped-none g none s ds
      | inr (sizes, by) ↦ grouped-few g sizes by s ds (omega (arith, few, by.beyond, last-least3 sizes by.shape))
    ]

empty_either_way : (b : Bool) (ds : List ℕ) → (if b then [] else []) ++ ds ≡ ds
empty_either_way true ds = refl
empty_either_way false ds = refl

-- an empty separator does not show
pub separated-none : (is_due : ℕ → Bool) (ds : List ℕ) → separated is_due [] ds ≡ plain ds
separated-none is_due [] = refl
separated-none is_due (d ∷ ds) = ap (λ right. (48 + d) ∷ right) (empty_either_way (is_due (length ds)) (separated is_due [] ds)
    ∙ separated-none is_due ds)

pub grouped-empty : (g : Grouping) (s ds : List ℕ) → length s ≡ 0 → grouped g s ds ≡ plain ds
grouped-empty g s ds empty = ap (λ t. grouped g t ds) (nil_from_length s empty) ∙ separated-none (stands g (length ds)) ds

-- a separator that is never printed may as well be empty
pub grouped-printed : (g : Grouping) (s ds : List ℕ) → grouped g s ds ≡ grouped g (printed_separator g s) ds
grouped-printed Posix s ds = grouped-Posix s ds ∙ sym (grouped-Posix [] ds)
grouped-printed _ s ds = refl

-- what holds of a text and of the empty text, holds of the one of them that is taken
pub of_either : (P : List ℕ → Type 0) → P [] → (b : Bool) (s : List ℕ) → P s → P (if b then s else [])
of_either P empty true s whole = whole
of_either P empty false s whole = empty
