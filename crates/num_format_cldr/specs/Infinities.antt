-- The texts of locales for infinity.
use Rattle.std.specs.Prelude.{ℕ, List, [], ◌∷◌, codes}
use Rattle.num_format_cldr.specs.Unusual.{Unusual, for_names, value_for}

-- the locales with another text than the sign for infinity
abbrev pub unusual_infinities : List (Unusual (List ℕ))
unusual_infinities =
    for_names ("dz" ∷ []) (codes "གྲངས་མེད")
    ∷ for_names ("en-US-POSIX" ∷ []) (codes "INF")
    ∷ []

-- the text of a locale for infinity
abbrev pub infinity_of : List ℕ → List ℕ
infinity_of name = value_for name unusual_infinities (codes "∞")
