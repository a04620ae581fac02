-- Fields that are chosen by names of the header.
use Rattle.std.proofs.Common.{List, None, Some, [], ap, sym, ℕ, ◌++◌, ◌∙◌}
use Rattle.std.specs.Fmt.{option_append}
use Rattle.std.specs.Io.KnownBytes.{Keeps}
use Rattle.std.specs.Prelude.{Option}
use Rattle.regroup_lines.specs.Input.{Reads}

-- the bytes that were read, and those that were not
pub read-again : (bytes : List ℕ) (a b : Option (List ℕ)) → Reads [] bytes a b → Keeps a (option_append (Some bytes) b)
read-again bytes None b read = tt
read-again bytes (Some all) None read = absurd read.consumed
read-again bytes (Some all) (Some left) read = sym (read.consumed ∙ ap (λ l. l ++ left) read.joined)
