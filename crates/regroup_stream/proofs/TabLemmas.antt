-- The texts between tabs, taken off a line one by one.
use Rattle.std.proofs.Common.{◌≡◌, ℕ, suc, ◌+◌, ◌<◌, inl, inr, List, [], ◌∷◌, length, get_or, drop, take, Option, Some, None, arith}
use Rattle.std.proofs.Common.{ap, refl, sym}
use Rattle.std.specs.Prelude.{MatchOption}
use Rattle.std.specs.List.{position, position_or_len}
use Rattle.std.proofs.lemmas.Bool.{cases_Bool}
use Rattle.std.proofs.lemmas.List.{drop_more, length-drop}
use Rattle.std.proofs.lemmas.List.Quantifiers.{position-Some}
use Rattle.std.proofs.lemmas.List.Splits.{slice_split_first}
use Rattle.std.proofs.lemmas.List.Sums.{position_or_len_is}
use Rattle.num_format_digits.proofs.TagLemmas.{first_or_length}
use Rattle.regroup_stream.specs.Columns.{between_tabs, is_tab}

no_tab : (line : List ℕ) → position_or_len is_tab line ≡ length line → between_tabs line ≡ line ∷ []
no_tab [] end = refl
no_tab (b ∷ line) end = elim (cases_Bool (is_tab b)) [
  | inl tab ↦ (let wrong : 0 ≡ suc (length line) = rw tab at end in absurd (omega arith))
  | inr other ↦ (let rest : 1 + position_or_len is_tab line ≡ suc (length line) = rw other at end in
      rw (other, no_tab line (omega arith)) refl)
]

pub cut-texts : (line : List ℕ) (found : Option ℕ) → found ≡ position is_tab line → MatchOption found (between_tabs line ≡ line ∷ [])
    (λ i. (i < length line) × (between_tabs line ≡ take i line ∷ between_tabs (drop (i + 1) line)))
cut-texts line None is = no_tab line (sym (first_or_length is_tab line None is))
cut-texts line (Some i) is =
    let at = position-Some is_tab line i 0 (sym is) in
    let inside = at.0 in
    let first : i ≡ position_or_len is_tab line = sym (position_or_len_is is_tab line i 0 (omega arith) at.2 (λ l. at.1)) in
    (inside, rw first (slice_split_first is_tab line 0 (omega arith)))

-- the next text, where these follow those before
pub next-text : (texts : List (List ℕ)) (column : ℕ) (text : List ℕ) (more : List (List ℕ)) → drop column texts ≡ text ∷ more
    → (column < length texts) × (text ≡ get_or texts column text) × (drop (column + 1) texts ≡ more)
next-text texts column text more next =
    let rest = length-drop column texts in
    let one = ap length next in
    let inside : column < length texts = omega (arith, rest, one) in
    let step = drop_more texts column text inside in
    (inside, (cc), (cc))
