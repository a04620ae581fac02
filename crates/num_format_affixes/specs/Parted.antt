-- A text in three parts.
use Rattle.std.specs.Prelude.{◌≡◌, ℕ, ◌++◌, List, Option}
use Rattle.num_format_affixes.specs.Sides.{IsWithout}
use Rattle.num_format_affixes.specs.declared.parts.Parts.{Parts}
use Rattle.num_format_affixes.specs.declared.side.Side.TheVariants.{Start, End}

-- a text is split by how many bytes stand before and after the number: the parts joined are the text; without what stands before, and the
-- blanks after that, it is the other two; and these without what stands after, and the blanks before that, are the number's own text
pub record IsParted (before after : Option ℕ) (text : List ℕ) (parts : Parts) : Type 0 where
  pub joined : parts.before.now ++ (parts.inner.now ++ parts.after.now) ≡ text
  pub first : IsWithout Start before text (parts.inner.now ++ parts.after.now)
  pub last : IsWithout End after (parts.inner.now ++ parts.after.now) parts.inner.now
