-- Laws of the checks of a format.
use Rattle.std.specs.Prelude.{◌≡◌, ◌-◌, ◌^◌, ℤ, pos, negsuc, ◌↔◌, [], ◌∷◌, codes, IsUtf8}
use Rattle.num_format_text.specs.declared.grouping.Grouping.TheVariants.{Standard, Indian, Myriad, Sparse}
use Rattle.num_format_text.specs.English.{english_with}
use Rattle.num_format_text.specs.Format.{FormatData}
use Rattle.num_format_int.specs.Kind.{kind_of, I128, IntegerType, IsValueOf}
use Rattle.num_format_int.specs.Text.{text_of}
use Rattle.num_format_certificates.specs.Alike.{Alike, PrintsAlike}
use Rattle.num_format_certificates.specs.RoundTrips.{ReadsBack, RoundTrips, IsUnambiguous}

-- four numbers decide whether two formats print all numbers alike
abbrev pub AlikeLaw : Type 0
AlikeLaw = (f g : FormatData) → Alike f g ↔
    (PrintsAlike f g (pos 1000) × PrintsAlike f g (pos 100000) × PrintsAlike f g (pos 1000000) × PrintsAlike f g (negsuc 0))

-- none of the four can be left out: for each there are two formats that print it differently, and the other three alike
pub record FourNeededLaw : Type 0 where
  -- 1,000 and 1000
  pub thousand :
      let f = english_with Standard (codes ",") (codes "-") in
      let g = english_with Sparse (codes ",") (codes "-") in
      ¬ (PrintsAlike f g (pos 1000)) × PrintsAlike f g (pos 100000) × PrintsAlike f g (pos 1000000) × PrintsAlike f g (negsuc 0)
  -- 1000000 and 10000000
  pub hundred_thousand :
      let f = english_with Standard (codes "0") (codes "-") in
      let g = english_with Indian (codes "0") (codes "-") in
      PrintsAlike f g (pos 1000) × ¬ (PrintsAlike f g (pos 100000)) × PrintsAlike f g (pos 1000000) × PrintsAlike f g (negsuc 0)
  -- 10000000 and 100000000
  pub million :
      let f = english_with Myriad (codes "0") (codes "-") in
      let g = english_with Sparse (codes "0") (codes "-") in
      PrintsAlike f g (pos 1000) × PrintsAlike f g (pos 100000) × ¬ (PrintsAlike f g (pos 1000000)) × PrintsAlike f g (negsuc 0)
  -- two minus signs, the second of them U+2212 in UTF-8
  pub minus_one :
      let f = english_with Standard (codes ",") (codes "-") in
      let g = english_with Standard (codes ",") (226 ∷ 136 ∷ 146 ∷ []) in
      PrintsAlike f g (pos 1000) × PrintsAlike f g (pos 100000) × PrintsAlike f g (pos 1000000) × ¬ (PrintsAlike f g (negsuc 0))

-- which formats print every number so that it reads back, among those whose minus sign and separator are UTF-8
pub record RoundTripLaw : Type 0 where
  pub two_values : (f : FormatData) → IsUtf8 f.minus_sign → IsUtf8 f.separator → RoundTrips f
      ↔ (ReadsBack (kind_of I128) f (pos 1) × ReadsBack (kind_of I128) f (negsuc (2 ^ 127 - 1)))
  pub characters : (f : FormatData) → IsUtf8 f.minus_sign → IsUtf8 f.separator → RoundTrips f ↔ IsUnambiguous f

-- of these two values, neither decides alone: under one format the first reads back and the second does not, under another it is
-- the other way round
pub record BothNeededLaw : Type 0 where
  -- under the minus sign `-0` the text of -2 ^ 127 has 40 digits and a sign, one more than is parsed
  pub lowest :
      let f = english_with Standard (codes ",") (codes "-0") in
      ReadsBack (kind_of I128) f (pos 1) × ¬ (ReadsBack (kind_of I128) f (negsuc (2 ^ 127 - 1)))
  -- the empty minus sign is the prefix of the text of 1, which parses as -1
  pub one :
      let f = english_with Standard (codes ",") [] in
      ¬ (ReadsBack (kind_of I128) f (pos 1)) × ReadsBack (kind_of I128) f (negsuc (2 ^ 127 - 1))

-- a text of a number is UTF-8, if the minus sign and the separator are
abbrev pub Utf8Law : Type 0
Utf8Law = (f : FormatData) (z : ℤ) → IsUtf8 f.minus_sign → IsUtf8 f.separator → IsUtf8 (text_of f z)

-- under a format by which every number reads back, numbers of one integer type that have the same text are equal
abbrev pub DistinctTextsLaw : Type 0
DistinctTextsLaw = (f : FormatData) → RoundTrips f →
    (t : IntegerType) (y z : ℤ) → IsValueOf (kind_of t) y → IsValueOf (kind_of t) z → text_of f y ≡ text_of f z → y ≡ z
