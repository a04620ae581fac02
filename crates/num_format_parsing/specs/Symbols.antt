-- The symbols of locales, in UTF-8.
use Rattle.std.specs.Prelude.{ℕ, List, [], ◌∷◌, ◌++◌, codes}

-- the minus signs: a hyphen or U+2212, some with the marks of direction U+061C, U+200E or U+200F
abbrev pub short_signs : List (List ℕ)
short_signs = codes "-" ∷ (0xE2 ∷ 0x88 ∷ 0x92 ∷ []) ∷ (0xD8 ∷ 0x9C ∷ 0x2D ∷ []) ∷ (0xE2 ∷ 0x80 ∷ 0x8E ∷ 0x2D ∷ []) ∷ []

abbrev pub marked_signs : List (List ℕ)
marked_signs =
    (0xE2 ∷ 0x80 ∷ 0x8F ∷ 0x2D ∷ []) ∷ (0xE2 ∷ 0x80 ∷ 0x8E ∷ 0x2D ∷ 0xE2 ∷ 0x80 ∷ 0x8E ∷ [])
    ∷ (0xE2 ∷ 0x80 ∷ 0x8E ∷ 0xE2 ∷ 0x88 ∷ 0x92 ∷ []) ∷ []

abbrev pub locale_signs : List (List ℕ)
locale_signs = short_signs ++ marked_signs

-- the separators beside a comma and a point: a no-break space, a narrow one, an apostrophe and U+066C
abbrev pub locale_separators : List (List ℕ)
locale_separators =
    (0xC2 ∷ 0xA0 ∷ []) ∷ (0xE2 ∷ 0x80 ∷ 0xAF ∷ []) ∷ (0xE2 ∷ 0x80 ∷ 0x99 ∷ []) ∷ (0xD9 ∷ 0xAC ∷ []) ∷ []
