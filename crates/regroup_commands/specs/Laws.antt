-- What the tests of the definitions decide, in the words of the library.
use Rattle.std.specs.Prelude.{ℕ, List, IsTrue, IsUtf8, ◌↔◌}
use Rattle.num_format.specs.Alike.{Alike}
use Rattle.num_format.specs.Format.{FormatData}
use Rattle.num_format.specs.Names.{Spells}
use Rattle.num_format.specs.RoundTrips.{RoundTrips}
use Rattle.regroup_commands.specs.Locales.{is_spelling}
use Rattle.regroup_commands.specs.Output.{is_alike, is_read_back}

-- the test of `check` passes exactly if every number reads back
abbrev pub ReadBackTestLaw : Type 0
ReadBackTestLaw = (f : FormatData) → IsUtf8 f.minus_sign → IsUtf8 f.separator → IsTrue (is_read_back f) ↔ RoundTrips f

-- the test of `alike` passes exactly if all numbers print alike
abbrev pub AlikeTestLaw : Type 0
AlikeTestLaw = (f g : FormatData) → IsTrue (is_alike f g) ↔ Alike f g

-- a text is a spelling of a name exactly if it spells it
abbrev pub SpellingLaw : Type 0
SpellingLaw = (text name : List ℕ) → IsTrue (is_spelling text name) ↔ Spells text name
