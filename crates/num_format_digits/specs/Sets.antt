-- The digit sets of the CLDR whose digits are Unicode's decimal digits: `latn`, and then the others in the order of their names.
use Prim.Native.String.{String}
use Rattle.std.specs.Prelude.{ℕ, List, [], ◌∷◌, codes, map}

-- a name as its bytes, and the code point of the zero, after which those of one to nine stand
abbrev pub row : String × ℕ → List ℕ × ℕ
row (name, z) = (codes name, z)

unfoldable pub sets : List (List ℕ × ℕ)
sets = map row (
    ("latn", 0x30) ∷ ("adlm", 0x1E950) ∷ ("ahom", 0x11730) ∷ ("arab", 0x660) ∷ ("arabext", 0x6F0) ∷ ("bali", 0x1B50) ∷
    ("beng", 0x9E6) ∷ ("bhks", 0x11C50) ∷ ("brah", 0x11066) ∷ ("cakm", 0x11136) ∷ ("cham", 0xAA50) ∷ ("deva", 0x966) ∷
    ("diak", 0x11950) ∷ ("fullwide", 0xFF10) ∷ ("gara", 0x10D40) ∷ ("gong", 0x11DA0) ∷ ("gonm", 0x11D50) ∷
    ("gujr", 0xAE6) ∷ ("gukh", 0x16130) ∷ ("guru", 0xA66) ∷ ("hmng", 0x16B50) ∷ ("hmnp", 0x1E140) ∷ ("java", 0xA9D0) ∷
    ("kali", 0xA900) ∷ ("kawi", 0x11F50) ∷ ("khmr", 0x17E0) ∷ ("knda", 0xCE6) ∷ ("krai", 0x16D70) ∷ ("lana", 0x1A80) ∷
    ("lanatham", 0x1A90) ∷ ("laoo", 0xED0) ∷ ("lepc", 0x1C40) ∷ ("limb", 0x1946) ∷
    ("mathbold", 0x1D7CE) ∷ ("mathdbl", 0x1D7D8) ∷ ("mathmono", 0x1D7F6) ∷ ("mathsanb", 0x1D7EC) ∷
    ("mathsans", 0x1D7E2) ∷ ("mlym", 0xD66) ∷ ("modi", 0x11650) ∷ ("mong", 0x1810) ∷ ("mroo", 0x16A60) ∷
    ("mtei", 0xABF0) ∷ ("mymr", 0x1040) ∷ ("mymrepka", 0x116DA) ∷ ("mymrpao", 0x116D0) ∷ ("mymrshan", 0x1090) ∷
    ("mymrtlng", 0xA9F0) ∷ ("nagm", 0x1E4F0) ∷ ("newa", 0x11450) ∷ ("nkoo", 0x7C0) ∷ ("olck", 0x1C50) ∷
    ("onao", 0x1E5F1) ∷ ("orya", 0xB66) ∷ ("osma", 0x104A0) ∷ ("outlined", 0x1CCF0) ∷ ("rohg", 0x10D30) ∷
    ("saur", 0xA8D0) ∷ ("segment", 0x1FBF0) ∷ ("shrd", 0x111D0) ∷ ("sind", 0x112F0) ∷ ("sinh", 0xDE6) ∷
    ("sora", 0x110F0) ∷ ("sund", 0x1BB0) ∷ ("sunu", 0x11BF0) ∷ ("takr", 0x116C0) ∷ ("talu", 0x19D0) ∷
    ("tamldec", 0xBE6) ∷ ("telu", 0xC66) ∷ ("thai", 0xE50) ∷ ("tibt", 0xF20) ∷ ("tirh", 0x114D0) ∷ ("tnsa", 0x16AC0) ∷
    ("tols", 0x11DE0) ∷ ("vaii", 0xA620) ∷ ("wara", 0x118E0) ∷ ("wcho", 0x1E2F0) ∷ [])

-- the locales whose default set in CLDR 42 is another than `latn`, with the zeros of these
unfoldable pub locales : List (List ℕ × ℕ)
locales = map row (
    ("ar", 0x660) ∷ ("ar-BH", 0x660) ∷ ("ar-DJ", 0x660) ∷ ("ar-EG", 0x660) ∷ ("ar-ER", 0x660) ∷ ("ar-IL", 0x660) ∷
    ("ar-IQ", 0x660) ∷ ("ar-JO", 0x660) ∷ ("ar-KM", 0x660) ∷ ("ar-KW", 0x660) ∷ ("ar-LB", 0x660) ∷ ("ar-MR", 0x660) ∷
    ("ar-OM", 0x660) ∷ ("ar-PS", 0x660) ∷ ("ar-QA", 0x660) ∷ ("ar-SA", 0x660) ∷ ("ar-SD", 0x660) ∷ ("ar-SO", 0x660) ∷
    ("ar-SS", 0x660) ∷ ("ar-SY", 0x660) ∷ ("ar-TD", 0x660) ∷ ("ar-YE", 0x660) ∷ ("as", 0x9E6) ∷ ("bn", 0x9E6) ∷
    ("bn-IN", 0x9E6) ∷ ("ccp", 0x11136) ∷ ("ccp-IN", 0x11136) ∷ ("ckb", 0x660) ∷ ("ckb-IR", 0x660) ∷ ("dz", 0xF20) ∷
    ("fa", 0x6F0) ∷ ("fa-AF", 0x6F0) ∷ ("ks", 0x6F0) ∷ ("lrc", 0x6F0) ∷ ("lrc-IQ", 0x6F0) ∷ ("mr", 0x966) ∷
    ("my", 0x1040) ∷ ("mzn", 0x6F0) ∷ ("ne", 0x966) ∷ ("ne-IN", 0x966) ∷ ("pa-Arab", 0x6F0) ∷ ("ps", 0x6F0) ∷
    ("ps-PK", 0x6F0) ∷ ("sd", 0x660) ∷ ("ur-IN", 0x6F0) ∷ ("uz-Arab", 0x6F0) ∷ [])
