-- Examples of texts of numbers, proved by computing them.
use Rattle.std.proofs.Common.{◌≡◌, [], ◌∷◌, refl, pos, negsuc}
use Rattle.std.specs.Prelude.{codes, encode_utf8_all, map}
use lib.Utf8.{encode}
use Rattle.num_format_text.specs.declared.grouping.Grouping.TheVariants.{Indian, Posix}
use Rattle.num_format_text.specs.English.{english, english_with}
use Rattle.num_format_int.specs.Digits.{digits}
use Rattle.num_format_int.specs.Kind.{unsigned, signed}
use Rattle.num_format_int.specs.Text.{text_of}

in_English : map (text_of english) (pos 0 ∷ pos 5 ∷ pos 999 ∷ pos 1000 ∷ pos 1000000 ∷ negsuc 999999 ∷ (signed 7 4).low ∷ [])
    ≡ codes "0" ∷ codes "5" ∷ codes "999" ∷ codes "1,000" ∷ codes "1,000,000" ∷ codes "-1,000,000" ∷ codes "-128" ∷ []
unfolding digits
in_English = refl

-- 😀 is the separator and 🙌 the minus sign; the text has 19 bytes
many_bytes : text_of (english_with Indian (encode_utf8_all (0x1F600 ∷ [])) (encode_utf8_all (0x1F64C ∷ []))) (negsuc 999999)
    ≡ encode_utf8_all (0x1F64C ∷ 49 ∷ 48 ∷ 0x1F600 ∷ 48 ∷ 48 ∷ 0x1F600 ∷ 48 ∷ 48 ∷ 48 ∷ [])
unfolding digits encode
many_bytes = refl

-- the longest text of all
lowest_i128 : text_of (english_with Indian (codes "12345678") (codes "abcdefgh")) (signed 127 40).low
    ≡ codes "abcdefgh171234567801123456784112345678181234567834123456786012345678461234567892123456783112345678731234567816123456788712345678301234567837123456781512345678881234567841123456780512345678728"
unfolding digits
lowest_i128 = refl

highest_u128 : text_of (english_with Indian (codes ",") (codes "-")) (unsigned 128 39).high
    ≡ codes "34,02,82,36,69,20,93,84,63,46,33,74,60,74,31,76,82,11,455"
unfolding digits
highest_u128 = refl

posix_has_no_groups : text_of (english_with Posix (codes ",") (codes "-")) (pos 100000) ≡ codes "100000"
unfolding digits
posix_has_no_groups = refl
