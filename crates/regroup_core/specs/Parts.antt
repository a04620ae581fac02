-- The parts of a text.
use Rattle.std.specs.Prelude.{ℕ, List}
use Rattle.regroup_core.specs.Places.{doubled}
use Rattle.regroup_core.specs.declared.text.Part.{Part}
use Rattle.regroup_core.specs.declared.text.Part.TheVariants.{Doubled, Plain}

-- the bytes that are appended for a part
abbrev pub part_text : Part → List ℕ
part_text (Plain bytes) = bytes.now
part_text (Doubled bytes) = doubled bytes.now
