-- The names of locales, each with its class.
use Rattle.std.specs.Prelude.{ℕ, Option, Some, None, unwrap_or, List, [], ◌∷◌, ◌++◌, map, codes}
use Prim.Native.String.{String}
use Rattle.num_format_cldr.specs.Classes.{Class, A, B, C, D, E, F, G, H}

-- the name of a locale, and its class
pub record Member : Type 0 where
  pub name : List ℕ
  pub class : Class

-- what follows a stem and a hyphen in a name, with its class where that is not the stem's
pub record Word : Type 0 where
  pub text : List ℕ
  pub own_class : Option Class

-- a word whose name has the stem's class
abbrev pub same : String → Word
same text = record { text = codes text; own_class = None }

-- a word whose name has a class of its own
abbrev pub own : String → Class → Word
own text class = record { text = codes text; own_class = Some class }

-- a stem, which is itself a name, its class, and the words that follow it in further names
pub record Family : Type 0 where
  pub stem : List ℕ
  pub class : Class
  pub words : List Word

-- a family, in the notation of the list below
abbrev pub family : String → Class → List Word → Family
family stem class words = record { stem = codes stem; class = class; words = words }

-- the stem, and then the stem, a hyphen (45) and each word
abbrev pub members_of : Family → List Member
members_of f =
    record { name = f.stem; class = f.class }
    ∷ map (λ word. record { name = f.stem ++ 45 ∷ word.text; class = unwrap_or word.own_class f.class }) f.words

-- all families; in the order of this list, their names rise in byte order
unfoldable pub families : List Family
families =
    family "af" C (same "NA" ∷ [])
    ∷ family "agq" C []
    ∷ family "ak" A []
    ∷ family "am" A []
    ∷ family "ar" E (same "AE" ∷ same "BH" ∷ same "DJ" ∷ own "DZ" B ∷ same "EG" ∷ own "EH" A ∷
    same "ER" ∷ same "IL" ∷ same "IQ" ∷ same "JO" ∷ same "KM" ∷ same "KW" ∷ same "LB" ∷
    own "LY" B ∷ own "MA" B ∷ same "MR" ∷ same "OM" ∷ same "PS" ∷ same "QA" ∷ same "SA" ∷
    same "SD" ∷ same "SO" ∷ same "SS" ∷ same "SY" ∷ same "TD" ∷ own "TN" B ∷ same "YE" ∷ [])
    ∷ family "as" A []
    ∷ family "asa" A []
    ∷ family "ast" B []
    ∷ family "az" B (same "Cyrl" ∷ same "Latn" ∷ [])
    ∷ family "bas" C []
    ∷ family "be" C []
    ∷ family "bem" A []
    ∷ family "bez" A []
    ∷ family "bg" C []
    ∷ family "bm" A []
    ∷ family "bn" A (same "IN" ∷ [])
    ∷ family "bo" A (same "IN" ∷ [])
    ∷ family "br" C []
    ∷ family "brx" A []
    ∷ family "bs" B (same "Cyrl" ∷ same "Latn" ∷ [])
    ∷ family "ca" B (same "AD" ∷ same "ES-VALENCIA" ∷ same "FR" ∷ same "IT" ∷ [])
    ∷ family "ccp" A (same "IN" ∷ [])
    ∷ family "ce" A []
    ∷ family "ceb" A []
    ∷ family "cgg" A []
    ∷ family "chr" A []
    ∷ family "ckb" E (same "IR" ∷ [])
    ∷ family "cs" C []
    ∷ family "cu" A []
    ∷ family "cy" A []
    ∷ family "da" B (same "GL" ∷ [])
    ∷ family "dav" A []
    ∷ family "de" B (own "AT" C ∷ same "BE" ∷ own "CH" F ∷ same "IT" ∷ own "LI" F ∷
    same "LU" ∷ [])
    ∷ family "dje" H []
    ∷ family "dsb" B []
    ∷ family "dua" C []
    ∷ family "dyo" C []
    ∷ family "dz" A []
    ∷ family "ebu" A []
    ∷ family "ee" A (same "TG" ∷ [])
    ∷ family "el" B (same "CY" ∷ [])
    ∷ family "en" A (same "001" ∷ same "150" ∷ same "AE" ∷ same "AG" ∷ same "AI" ∷ same "AS" ∷
    own "AT" B ∷ same "AU" ∷ same "BB" ∷ own "BE" B ∷ same "BI" ∷ same "BM" ∷ same "BS" ∷
    same "BW" ∷ same "BZ" ∷ same "CA" ∷ same "CC" ∷ own "CH" F ∷ same "CK" ∷ same "CM" ∷
    same "CX" ∷ same "CY" ∷ own "DE" B ∷ same "DG" ∷ own "DK" B ∷ same "DM" ∷ same "ER" ∷
    own "FI" C ∷ same "FJ" ∷ same "FK" ∷ same "FM" ∷ same "GB" ∷ same "GD" ∷ same "GG" ∷
    same "GH" ∷ same "GI" ∷ same "GM" ∷ same "GU" ∷ same "GY" ∷ same "HK" ∷ same "IE" ∷
    same "IL" ∷ same "IM" ∷ same "IN" ∷ same "IO" ∷ same "JE" ∷ same "JM" ∷ same "KE" ∷
    same "KI" ∷ same "KN" ∷ same "KY" ∷ same "LC" ∷ same "LR" ∷ same "LS" ∷ same "MG" ∷
    same "MH" ∷ same "MO" ∷ same "MP" ∷ same "MS" ∷ same "MT" ∷ same "MU" ∷ same "MW" ∷
    same "MY" ∷ same "NA" ∷ same "NF" ∷ same "NG" ∷ own "NL" B ∷ same "NR" ∷ same "NU" ∷
    same "NZ" ∷ same "PG" ∷ same "PH" ∷ same "PK" ∷ same "PN" ∷ same "PR" ∷ same "PW" ∷
    same "RW" ∷ same "SB" ∷ same "SC" ∷ same "SD" ∷ own "SE" C ∷ same "SG" ∷ same "SH" ∷
    own "SI" B ∷ same "SL" ∷ same "SS" ∷ same "SX" ∷ same "SZ" ∷ same "TC" ∷ same "TK" ∷
    same "TO" ∷ same "TT" ∷ same "TV" ∷ same "TZ" ∷ same "UG" ∷ same "UM" ∷ same "US-POSIX" ∷
    same "VC" ∷ same "VG" ∷ same "VI" ∷ same "VU" ∷ same "WS" ∷ own "ZA" C ∷ same "ZM" ∷
    same "ZW" ∷ [])
    ∷ family "eo" C []
    ∷ family "es" B (own "419" A ∷ same "AR" ∷ same "BO" ∷ own "BR" A ∷ own "BZ" A ∷ same "CL" ∷
    same "CO" ∷ own "CR" C ∷ own "CU" A ∷ own "DO" A ∷ same "EA" ∷ same "EC" ∷ same "GQ" ∷
    own "GT" A ∷ own "HN" A ∷ same "IC" ∷ own "MX" A ∷ own "NI" A ∷ own "PA" A ∷ own "PE" A ∷
    same "PH" ∷ own "PR" A ∷ same "PY" ∷ own "SV" A ∷ own "US" A ∷ same "UY" ∷ same "VE" ∷ [])
    ∷ family "et" C []
    ∷ family "eu" B []
    ∷ family "ewo" C []
    ∷ family "fa" E (same "AF" ∷ [])
    ∷ family "ff" C (same "Latn" ∷ same "Latn-BF" ∷ same "Latn-CM" ∷ same "Latn-GH" ∷
    same "Latn-GM" ∷ same "Latn-GN" ∷ same "Latn-GW" ∷ same "Latn-LR" ∷ same "Latn-MR" ∷
    same "Latn-NE" ∷ same "Latn-NG" ∷ same "Latn-SL" ∷ [])
    ∷ family "fi" C []
    ∷ family "fil" A []
    ∷ family "fo" B (same "DK" ∷ [])
    ∷ family "fr" D (same "BE" ∷ same "BF" ∷ same "BI" ∷ same "BJ" ∷ same "BL" ∷ own "CA" C ∷
    same "CD" ∷ same "CF" ∷ same "CG" ∷ same "CH" ∷ same "CI" ∷ same "CM" ∷ same "DJ" ∷
    same "DZ" ∷ same "GA" ∷ same "GF" ∷ same "GN" ∷ same "GP" ∷ same "GQ" ∷ same "HT" ∷
    same "KM" ∷ own "LU" B ∷ own "MA" B ∷ same "MC" ∷ same "MF" ∷ same "MG" ∷ same "ML" ∷
    same "MQ" ∷ same "MR" ∷ same "MU" ∷ same "NC" ∷ same "NE" ∷ same "PF" ∷ same "PM" ∷
    same "RE" ∷ same "RW" ∷ same "SC" ∷ same "SN" ∷ same "SY" ∷ same "TD" ∷ same "TG" ∷
    same "TN" ∷ same "VU" ∷ same "WF" ∷ same "YT" ∷ [])
    ∷ family "fur" B []
    ∷ family "fy" B []
    ∷ family "ga" A (same "GB" ∷ [])
    ∷ family "gd" A []
    ∷ family "gl" B []
    ∷ family "gsw" F (same "FR" ∷ same "LI" ∷ [])
    ∷ family "gu" A []
    ∷ family "guz" A []
    ∷ family "gv" A []
    ∷ family "ha" A (same "GH" ∷ same "NE" ∷ [])
    ∷ family "haw" A []
    ∷ family "he" A []
    ∷ family "hi" A []
    ∷ family "hr" B (same "BA" ∷ [])
    ∷ family "hsb" B []
    ∷ family "hu" C []
    ∷ family "hy" C []
    ∷ family "ia" B []
    ∷ family "id" B []
    ∷ family "ig" A []
    ∷ family "ii" A []
    ∷ family "is" B []
    ∷ family "it" B (own "CH" F ∷ same "SM" ∷ same "VA" ∷ [])
    ∷ family "ja" A []
    ∷ family "jgo" B []
    ∷ family "jmc" A []
    ∷ family "jv" B []
    ∷ family "ka" C []
    ∷ family "kab" C []
    ∷ family "kam" A []
    ∷ family "kde" A []
    ∷ family "kea" C []
    ∷ family "khq" H []
    ∷ family "ki" A []
    ∷ family "kk" C []
    ∷ family "kkj" B []
    ∷ family "kl" B []
    ∷ family "kln" A []
    ∷ family "km" B []
    ∷ family "kn" A []
    ∷ family "ko" A (same "KP" ∷ [])
    ∷ family "kok" A []
    ∷ family "ks" E []
    ∷ family "ksb" A []
    ∷ family "ksf" C []
    ∷ family "ksh" C []
    ∷ family "ku" B []
    ∷ family "kw" A []
    ∷ family "ky" C []
    ∷ family "lag" A []
    ∷ family "lb" B []
    ∷ family "lg" A []
    ∷ family "lkt" A []
    ∷ family "ln" B (same "AO" ∷ same "CF" ∷ same "CG" ∷ [])
    ∷ family "lo" B []
    ∷ family "lrc" E (same "IQ" ∷ [])
    ∷ family "lt" C []
    ∷ family "lu" B []
    ∷ family "luo" A []
    ∷ family "luy" A []
    ∷ family "lv" C []
    ∷ family "mas" A (same "TZ" ∷ [])
    ∷ family "mer" A []
    ∷ family "mfe" H []
    ∷ family "mg" A []
    ∷ family "mgh" B []
    ∷ family "mgo" A []
    ∷ family "mi" A []
    ∷ family "mk" B []
    ∷ family "ml" A []
    ∷ family "mn" A []
    ∷ family "mr" A []
    ∷ family "ms" A (own "BN" B ∷ same "SG" ∷ [])
    ∷ family "mt" A []
    ∷ family "mua" B []
    ∷ family "my" A []
    ∷ family "mzn" E []
    ∷ family "naq" A []
    ∷ family "nb" C (same "SJ" ∷ [])
    ∷ family "nd" A []
    ∷ family "nds" A (same "NL" ∷ [])
    ∷ family "ne" A (same "IN" ∷ [])
    ∷ family "nl" B (same "AW" ∷ same "BE" ∷ same "BQ" ∷ same "CW" ∷ same "SR" ∷ same "SX" ∷ [])
    ∷ family "nmg" C []
    ∷ family "nn" C []
    ∷ family "nnh" B []
    ∷ family "nus" A []
    ∷ family "nyn" A []
    ∷ family "om" A (same "KE" ∷ [])
    ∷ family "or" A []
    ∷ family "os" C (same "RU" ∷ [])
    ∷ family "pa" A (own "Arab" E ∷ same "Guru" ∷ [])
    ∷ family "pl" C []
    ∷ family "prg" A []
    ∷ family "ps" E (same "PK" ∷ [])
    ∷ family "pt" B (own "AO" C ∷ own "CH" C ∷ own "CV" C ∷ own "GQ" C ∷ own "GW" C ∷ own "LU" C ∷
    own "MO" C ∷ own "MZ" C ∷ own "PT" C ∷ own "ST" C ∷ own "TL" C ∷ [])
    ∷ family "qu" A (own "BO" B ∷ same "EC" ∷ [])
    ∷ family "rm" F []
    ∷ family "rn" B []
    ∷ family "ro" B (same "MD" ∷ [])
    ∷ family "rof" A []
    ∷ family "root" A []
    ∷ family "ru" C (same "BY" ∷ same "KG" ∷ same "KZ" ∷ same "MD" ∷ same "UA" ∷ [])
    ∷ family "rw" B []
    ∷ family "rwk" A []
    ∷ family "sah" C []
    ∷ family "saq" A []
    ∷ family "sbp" A []
    ∷ family "sd" E []
    ∷ family "se" C (same "FI" ∷ same "SE" ∷ [])
    ∷ family "seh" B []
    ∷ family "ses" H []
    ∷ family "sg" B []
    ∷ family "shi" C (same "Latn" ∷ same "Tfng" ∷ [])
    ∷ family "si" A []
    ∷ family "sk" C []
    ∷ family "sl" B []
    ∷ family "smn" C []
    ∷ family "sn" A []
    ∷ family "so" A (same "DJ" ∷ same "ET" ∷ same "KE" ∷ [])
    ∷ family "sq" C (same "MK" ∷ same "XK" ∷ [])
    ∷ family "sr" B (same "Cyrl" ∷ same "Cyrl-BA" ∷ same "Cyrl-ME" ∷ same "Cyrl-XK" ∷
    same "Latn" ∷ same "Latn-BA" ∷ same "Latn-ME" ∷ same "Latn-XK" ∷ [])
    ∷ family "sv" C (same "AX" ∷ same "FI" ∷ [])
    ∷ family "sw" A (own "CD" B ∷ same "KE" ∷ same "UG" ∷ [])
    ∷ family "ta" A (same "LK" ∷ same "MY" ∷ same "SG" ∷ [])
    ∷ family "te" A []
    ∷ family "teo" A (same "KE" ∷ [])
    ∷ family "tg" C []
    ∷ family "th" A []
    ∷ family "ti" A (same "ER" ∷ [])
    ∷ family "tk" C []
    ∷ family "to" A []
    ∷ family "tr" B (same "CY" ∷ [])
    ∷ family "tt" C []
    ∷ family "twq" H []
    ∷ family "tzm" C []
    ∷ family "ug" A []
    ∷ family "uk" C []
    ∷ family "ur" A (own "IN" E ∷ [])
    ∷ family "uz" C (own "Arab" E ∷ same "Cyrl" ∷ same "Latn" ∷ [])
    ∷ family "vai" A (same "Latn" ∷ same "Vaii" ∷ [])
    ∷ family "vi" B []
    ∷ family "vo" A []
    ∷ family "vun" A []
    ∷ family "wae" G []
    ∷ family "wo" B []
    ∷ family "xh" H []
    ∷ family "xog" A []
    ∷ family "yav" C []
    ∷ family "yi" A []
    ∷ family "yo" A (same "BJ" ∷ [])
    ∷ family "yue" A (same "Hans" ∷ same "Hant" ∷ [])
    ∷ family "zgh" C []
    ∷ family "zh" A (same "Hans" ∷ same "Hans-HK" ∷ same "Hans-MO" ∷ same "Hans-SG" ∷
    same "Hant" ∷ same "Hant-HK" ∷ same "Hant-MO" ∷ [])
    ∷ family "zu" A []
    ∷ []
