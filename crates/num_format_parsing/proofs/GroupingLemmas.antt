-- Which bytes are digits with the separators of a grouping, or without any.
use Rattle.std.proofs.Common.{◌≡◌, ℕ, ◌<◌, ◌≤◌, inl, inr, List, [], length, ◌∙◌, sym, arith, subst}
use Rattle.num_format_text.specs.declared.grouping.Grouping.{Grouping}
use Rattle.num_format_text.specs.declared.grouping.Sizes.{Sizes}
use Rattle.num_format_text.specs.Separators.{GroupsBy, HaveShape, separates}
use Rattle.num_format_int.specs.Grouped.{grouped}
use Rattle.num_format_int.specs.Groups.{plain}
use Rattle.num_format_int.proofs.GroupLemmas.{last_group-by, only-by}
use Rattle.num_format_int.proofs.GroupedLemmas.{grouped-by, grouped-few}
use Rattle.num_format_parsing.specs.Parts.{BeginsWithDigits, IsBody, IsInGroups}
use Rattle.num_format_parsing.specs.Shapes.{byte_digits}
use Rattle.num_format_parsing.proofs.DigitLemmas.{text_digits-below}
use Rattle.num_format_parsing.proofs.GroupsLemmas.{groups-separated, not-plain, separated-groups}

-- a group has few digits, and the last one not fewer
pub shape-bounds : (sizes : Sizes) → HaveShape sizes → (0 < sizes.size) × (sizes.size ≤ sizes.last) × (sizes.last ≤ 4)
shape-bounds sizes shape = (grind arith, grind arith, grind arith)

module _ (g : Grouping) (s t : List ℕ) (count : ℕ) (begins : BeginsWithDigits t count) where
  -- not where the grouping prints no separator among these digits, but another byte stands among them
  pub lacks-separator : grouped g s (byte_digits t) ≡ plain (byte_digits t) → ¬ (IsBody g s t)
  lacks-separator none (inl same) = not-plain t count begins (same ∙ none)
  lacks-separator none (inr same) = not-plain t count begins same

  -- nor in other groups
  pub lacks-groups : (sizes : Sizes) → GroupsBy g sizes → ¬ (IsInGroups sizes.last sizes.size s t) → ¬ (IsBody g s t)
  lacks-groups sizes by lacks (inr same) = not-plain t count begins same
  lacks-groups sizes by lacks (inl same) =
      let ds = byte_digits t in
      let is_due = separates sizes (length ds) in
      let printed = same ∙ grouped-by g sizes by s ds in
      elim (groups-separated is_due sizes.last sizes.size s ds (only-by sizes by.shape (length ds)) (shape-bounds sizes by.shape).0
      (text_digits-below t)) [
        | inl none ↦ not-plain t count begins (printed ∙ none)
        | inr there ↦ lacks (subst (IsInGroups sizes.last sizes.size s) (sym printed) there)
      ]

  -- nor with fewer digits than have a separator
  pub lacks-digits : (sizes : Sizes) → GroupsBy g sizes → length (byte_digits t) < sizes.least → ¬ (IsBody g s t)
  lacks-digits sizes by few = lacks-separator (grouped-few g sizes by s (byte_digits t) few)

-- else they are, in those groups
pub body-groups : (g : Grouping) (sizes : Sizes) → GroupsBy g sizes → (s t : List ℕ) → byte_digits s ≡ []
    → IsInGroups sizes.last sizes.size s t → sizes.least ≤ length (byte_digits t) → IsBody g s t
body-groups g sizes by s t none whole many =
    let ds = byte_digits t in
    let is_due = separates sizes (length ds) in
    inl (separated-groups is_due sizes.last sizes.size s t (last_group-by sizes (length ds) many)
    (only-by sizes by.shape (length ds)).groups (shape-bounds sizes by.shape).0 none whole
    ∙ sym (grouped-by g sizes by s ds))
