-- Lemmas on the ends of a text.
use Rattle.std.proofs.Common.{◌≡◌, ℕ, ◌+◌, ◌-◌, List, Option, Some, None, length, take, arith, ap, subst, sym, ◌∙◌, length-take-le}
use Rattle.std.proofs.lemmas.List.{drop-drop, take-take}
use Rattle.num_format_affixes.specs.Sides.{IsWithout, IsWithoutBlanks, without}
use Rattle.num_format_affixes.specs.Sides.IsWithoutBlanks.{none, one_less}
use Rattle.num_format_affixes.specs.declared.side.Side.{Side}
use Rattle.num_format_affixes.specs.declared.side.Side.TheVariants.{Start, End}

-- a text without bytes at an end, twice
pub without-without : (side : Side) (a b : ℕ) (text : List ℕ) → without side a (without side b text) ≡ without side (b + a) text
without-without Start a b text = drop-drop a b text
without-without End a b text =
    let len : length (take (length text - b) text) ≡ length text - b = length-take-le (length text - b) text (omega arith) in
    let same : length text - b - a ≡ length text - (b + a) = omega arith in
    rw len (take-take (length text - b - a) (length text - b) text (omega arith) ∙ ap (λ n. take n text) same)

-- a text without blanks at an end is one text
pub without_blanks-once : (side : Side) (p q text : List ℕ) → IsWithoutBlanks side p text → IsWithoutBlanks side q text → p ≡ q
without_blanks-once side p q _ (none text e is) (none _ e' is') = is ∙ sym is'
without_blanks-once side p q _ (none text e is) (one_less len _ e' rest) = cc
without_blanks-once side p q _ (one_less len text e rest) (none _ e' is') = cc
without_blanks-once side p q _ (one_less len text e rest) (one_less len' _ e' rest') =
    let same : len' ≡ len = cc in
    without_blanks-once side p q (without side len text) rest
    (let P : ℕ → Type 0 = λ n. IsWithoutBlanks side q (without side n text) in subst P same rest')

-- and so is one without something there and the blanks beside it
pub without-once : (side : Side) (len : Option ℕ) (p q text : List ℕ) → IsWithout side len text p → IsWithout side len text q → p ≡ q
without-once side None p q text is is' = is ∙ sym is'
without-once side (Some len) p q text is is' = without_blanks-once side p q (without side len text) is is'
