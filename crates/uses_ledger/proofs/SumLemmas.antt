-- Sums of the first entries.
use Rattle.std.proofs.Common.{◌≡◌, ℕ, ◌+◌, ◌<◌, ◌≤◌, ℤ, ◌+ℤ◌, List, [], ◌∷◌, take, length, get_or, refl, ap, sym, ◌∙◌, subst, arith}
use Rattle.std.proofs.Math.IntN.{*ℤ-one, one}
use Rattle.std.proofs.lemmas.List.{take_all}
use Rattle.std.proofs.lemmas.List.Elements.{All-head, All-tail}
use Rattle.std.proofs.lemmas.List.Sums.{fold_more}
use Rattle.std.specs.List.{fold}
use Rattle.num_format_decimal.specs.FixedPoint.{FixedPoint, fixed_point}
use Rattle.num_format_decimal.specs.Values.{HasUnits, plus}
use Rattle.uses_ledger.specs.Entry.{IsOfOneScale}
use Rattle.uses_ledger.specs.Report.{HasLargeSum, sum_of, units_of}
use Rattle.uses_ledger.specs.declared.entry.Entry.{Entry}
use Rattle.uses_ledger.specs.declared.entry.TheConstants.{SCALE}

-- the sum of fewer than n first entries has units that are an `i128`
abbrev pub FitBelow : List Entry → ℕ → Type 0
FitBelow es n = (k : ℕ) → k < n → HasUnits (sum_of (take k es))

-- the sum of one entry more has not
pub next_sum_is_large : (es : List Entry) (i : ℕ) (e : Entry) (sum : FixedPoint) → i < length es → sum ≡ sum_of (take i es) →
    ¬ (HasUnits (plus sum (get_or es i e).amount)) → HasLargeSum es
next_sum_is_large es i e sum below same over = (i + 1, rw (fold_more (λ s x. plus s x.amount) _ es i e below, ← same) over)

-- where the sum of all entries fits too, no sum is too large
pub all_fit : (es : List Entry) (n : ℕ) → length es ≤ n → HasUnits (sum_of (take n es)) → FitBelow es n → ¬ (HasLargeSum es)
all_fit es n all last fit (k, large) =
    let not_below : ¬ (k < n) = λ below. large (fit k below) in
    let past : n ≤ k = omega arith in
    let same : take n es ≡ take k es = take_all n es all ∙ sym (take_all k es (omega arith)) in
    large (subst (λ first. HasUnits (sum_of first)) same last)

-- decimals of the scale of the ledger are added by their units
plus-units : (u v : ℤ) (scale : ℕ) → scale ≡ SCALE → plus (fixed_point u SCALE) (fixed_point v scale) ≡ fixed_point (u +ℤ v) SCALE
unfolding one
plus-units u v scale same =
    subst (λ s. plus (fixed_point u SCALE) (fixed_point v s) ≡ fixed_point (u +ℤ v) SCALE) (sym same)
    (ap (λ w. fixed_point w SCALE) (ap (λ a. a +ℤ _) (*ℤ-one u) ∙ ap (λ b. u +ℤ b) (*ℤ-one v)))

added_by_units : (u : ℤ) (es : List Entry) → IsOfOneScale es →
    fold (λ sum e. plus sum e.amount) (fixed_point u SCALE) es ≡ fixed_point (fold (λ sum e. sum +ℤ e.amount.units) u es) SCALE
added_by_units u [] at_scale = refl
added_by_units u (e ∷ es) at_scale =
    ap (λ start. fold (λ sum x. plus sum x.amount) start es) (plus-units u e.amount.units e.amount.scale
    (All-head (λ x. x.amount.scale ≡ SCALE) e es at_scale))
    ∙ added_by_units (u +ℤ e.amount.units) es (All-tail (λ x. x.amount.scale ≡ SCALE) e es at_scale)

-- so entries of one scale have the sum of their units
pub sum_by_units : (es : List Entry) → IsOfOneScale es → sum_of es ≡ fixed_point (units_of es) SCALE
sum_by_units es at_scale = added_by_units _ es at_scale
