-- The signs of locales.
use Rattle.std.specs.Prelude.{ℕ, List, [], ◌∷◌, codes}
use Prim.Native.String.{String}
use Rattle.num_format_cldr.specs.Unusual.{Unusual, for_names, for_stem_but, value_for}

-- the signs before a negative and before a positive number
pub record Signs : Type 0 where
  pub minus : List ℕ
  pub plus : List ℕ

-- a minus sign and a plus sign
abbrev pub signs : String → String → Signs
signs minus plus = record { minus = codes minus; plus = codes plus }

-- the locales whose signs have a directional mark, or whose minus sign is U+2212, here −
abbrev pub unusual_signs : List (Unusual Signs)
unusual_signs =
    for_names ("sd" ∷ []) (signs "\u{61c}-" "\u{61c}+")
    ∷ for_stem_but "ar" ("ar-DZ" ∷ "ar-EH" ∷ "ar-LY" ∷ "ar-MA" ∷ "ar-TN" ∷ []) (signs "\u{61c}-" "\u{61c}+")
    ∷ for_names ("ar-DZ" ∷ "ar-EH" ∷ "ar-LY" ∷ "ar-MA" ∷ "ar-TN" ∷ "he" ∷ "ur" ∷ [])
    (signs "\u{200e}-" "\u{200e}+")
    ∷ for_names ("fa" ∷ "fa-AF" ∷ []) (signs "\u{200e}−" "\u{200e}+")
    ∷ for_names ("ckb" ∷ "ckb-IR" ∷ []) (signs "\u{200f}-" "\u{200f}+")
    ∷ for_names ("ks" ∷ "lrc" ∷ "lrc-IQ" ∷ "mzn" ∷ "pa-Arab" ∷ "ps" ∷ "ps-PK" ∷ "ur-IN" ∷ "uz-Arab" ∷ [])
    (signs "\u{200e}-\u{200e}" "\u{200e}+\u{200e}")
    ∷ for_names ("et" ∷ "eu" ∷ "fi" ∷ "fo" ∷ "fo-DK" ∷ "gsw" ∷ "gsw-FR" ∷ "gsw-LI" ∷ "ksh" ∷ "lt" ∷ "nb" ∷
    "nb-SJ" ∷ "nn" ∷ "rm" ∷ "se" ∷ "se-FI" ∷ "se-SE" ∷ "sl" ∷ "sv" ∷ "sv-AX" ∷ "sv-FI" ∷ [])
    (signs "−" "+")
    ∷ []

-- the signs of a locale
abbrev pub signs_of : List ℕ → Signs
signs_of name = value_for name unusual_signs (signs "-" "+")
