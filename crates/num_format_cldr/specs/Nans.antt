-- The texts of locales for a value that is not a number.
use Rattle.std.specs.Prelude.{ℕ, List, [], ◌∷◌, ◌++◌, codes}
use Rattle.num_format_cldr.specs.Unusual.{Unusual, for_names, for_stem, for_stem_but, value_for}

-- the locales with another text than NaN
abbrev pub unusual_nans : List (Unusual (List ℕ))
unusual_nans =
    for_stem_but "ar" ("ar-DZ" ∷ "ar-EH" ∷ "ar-LY" ∷ "ar-MA" ∷ "ar-TN" ∷ [])
    (codes "\u{644}\u{64a}\u{633}\u{a0}\u{631}\u{642}\u{645}")
    ∷ for_names ("ar-DZ" ∷ "ar-EH" ∷ "ar-LY" ∷ "ar-MA" ∷ "ar-TN" ∷ [])
    (codes "\u{644}\u{64a}\u{633}\u{a0}\u{631}\u{642}\u{645}" ++ 0x64b ∷ 0x627 ∷ [])
    ∷ for_names ("ast" ∷ []) (codes "ND")
    ∷ for_names ("ce" ∷ []) (codes "Терхьаш\u{a0}дац")
    ∷ for_names ("dz" ∷ []) (codes "ཨང་མད")
    ∷ for_names ("ee" ∷ "ee-TG" ∷ []) (codes "mnn")
    ∷ for_names ("fa" ∷ "fa-AF" ∷ []) (codes "\u{646}\u{627}\u{639}\u{62f}\u{62f}")
    ∷ for_names ("fi" ∷ []) (codes "epäluku")
    ∷ for_names ("hy" ∷ []) (codes "ՈչԹ")
    ∷ for_names ("ka" ∷ []) (codes "არ\u{a0}არის\u{a0}რიცხვი")
    ∷ for_names ("kk" ∷ []) (codes "сан\u{a0}емес")
    ∷ for_names ("ky" ∷ []) (codes "сан\u{a0}эмес")
    ∷ for_names ("lo" ∷ []) (codes "ບໍ່\u{200b}ແມ່ນ\u{200b}ໂຕ\u{200b}ເລກ")
    ∷ for_names ("lv" ∷ []) (codes "NS")
    ∷ for_names ("my" ∷ []) (codes "ဂဏန်းမဟုတ်သော")
    ∷ for_names ("os" ∷ "os-RU" ∷ []) (codes "НН")
    ∷ for_stem "ru" (codes "не\u{a0}число")
    ∷ for_names ("sah" ∷ []) (codes "чыыһыла\u{a0}буотах")
    ∷ for_names ("smn" ∷ []) (codes "epiloho")
    ∷ for_stem "so" (codes "MaL")
    ∷ for_names ("tk" ∷ []) (codes "san\u{a0}däl")
    ∷ for_names ("to" ∷ []) (codes "TF")
    ∷ for_names ("uz" ∷ "uz-Latn" ∷ []) (codes "son\u{a0}emas")
    ∷ for_names ("uz-Cyrl" ∷ []) (codes "ҳақиқий\u{a0}сон\u{a0}эмас")
    ∷ for_names ("yue" ∷ "yue-Hant" ∷ "zh-Hant" ∷ "zh-Hant-HK" ∷ "zh-Hant-MO" ∷ []) (codes "非數值")
    ∷ for_names ("yue-Hans" ∷ []) (codes "非数值")
    ∷ []

-- the text of a locale for a value that is not a number
abbrev pub nan_of : List ℕ → List ℕ
nan_of name = value_for name unusual_nans (codes "NaN")
