-- A text is split in one way.
use Rattle.std.proofs.Common.{◌≡◌, ℕ, List, Option, Some, None, MatchOption, ◌++◌, ap, sym, subst, ◌∙◌}
use Rattle.std.proofs.lemmas.List.{append_cancel_left, append_cancel_right}
use Rattle.num_format_affixes.specs.Laws.{SameParts}
use Rattle.num_format_affixes.specs.Parted.{IsParted}
use Rattle.num_format_affixes.specs.Sides.{IsWithout}
use Rattle.num_format_affixes.specs.declared.parts.Parts.{Parts}
use Rattle.num_format_affixes.specs.declared.side.Side.TheVariants.{Start, End}
use Rattle.num_format_affixes.proofs.SideLemmas.{without-once}

-- what follows the first part
abbrev pub tail : Parts → List ℕ
tail parts = parts.inner.now ++ parts.after.now

-- where the last part is told by what follows the first one
pub parted-once : (before : Option ℕ) (after : List ℕ → Option ℕ) (text : List ℕ) (p q : Parts) →
    IsParted before (after (tail p)) text p → IsParted before (after (tail q)) text q → SameParts p q
parted-once before after text p q of_p of_q =
    let rest : tail p ≡ tail q = without-once Start before (tail p) (tail q) text of_p.first of_q.first in
    let P : List ℕ → Type 0 = λ t. IsWithout End (after t) t q.inner.now in
    let inner : p.inner.now ≡ q.inner.now =
    without-once End (after (tail p)) p.inner.now q.inner.now (tail p) of_p.last (subst P (sym rest) of_q.last) in
    record {
      before = append_cancel_right p.before.now q.before.now (tail p)
          (of_p.joined ∙ sym of_q.joined ∙ ap (λ t. q.before.now ++ t) (sym rest));
      inner = inner;
      after = append_cancel_left p.inner.now p.after.now q.after.now (rest ∙ ap (λ t. t ++ q.after.now) (sym inner));
    }

-- where both are told by the text, if anything is there
pub marked-once : (marks : Option (Option ℕ × Option ℕ)) (text : List ℕ) (p q : Parts) →
    MatchOption marks ⊥ (λ m. IsParted m.0 m.1 text p) → MatchOption marks ⊥ (λ m. IsParted m.0 m.1 text q) → SameParts p q
marked-once None text p q of_p of_q = absurd of_p
marked-once (Some marks) text p q of_p of_q = parted-once marks.0 (λ _. marks.1) text p q of_p of_q
