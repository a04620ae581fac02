use Rattle.std.proofs.Common.{◌≡◌, ◌∙◌, ◌∷◌, ℕ, true, List, Some, ap, refl, sym}
use Rattle.num_format_digits.specs.Tags.{after, is_word, or_empty}
use Rattle.num_format_digits.proofs.TagLemmas.{parts-some}
use Rattle.num_format_digits.proofs.tags.after.Goals as goal

-- the first part is the word
taken : (word p : List ℕ) (ps : List (List ℕ)) → is_word word p ≡ true → after word (p ∷ ps) ≡ Some (or_empty ps)
taken word p ps is = rw is refl

pub returns-then-is_word : goal.returns-then-is_word
returns-then-is_word c =
    c.loop-part.invariant
    ∙ ap (after c.args.word.now) c.in-Some.ensures.parts
    ∙ taken c.args.word.now c.in-Some.part.now _ (sym c.is_word.ensures ∙ c.if-is_word.true)
    ∙ ap Some (parts-some c.in-Some.rest.now)
