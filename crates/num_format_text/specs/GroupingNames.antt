-- The names of the groupings.
use Rattle.std.specs.Prelude.{ℕ, List, [], ◌∷◌, codes, find, bytes_eq, Option}
use Rattle.num_format_text.specs.declared.grouping.Grouping.{Grouping}
use Rattle.num_format_text.specs.declared.grouping.Grouping.TheVariants.{Standard, Indian, Posix, Myriad, Sparse}

-- the name of a grouping
abbrev pub grouping_name : Grouping → List ℕ
grouping_name Standard = codes "Standard"
grouping_name Indian = codes "Indian"
grouping_name Posix = codes "Posix"
grouping_name Myriad = codes "Myriad"
grouping_name Sparse = codes "Sparse"

-- every grouping
abbrev pub groupings : List Grouping
groupings = Standard ∷ Indian ∷ Posix ∷ Myriad ∷ Sparse ∷ []

-- the grouping of a name
abbrev pub grouping_named : List ℕ → Option Grouping
grouping_named name = find (λ grouping. bytes_eq name (grouping_name grouping)) groupings
