-- Examples of what JSON values hold, shown by computing the definitions.
use Rattle.std.proofs.Common.{◌≡◌, ℕ, List, [], ◌∷◌, codes, map, replicate, Ok, Err, refl}
use Rattle.std.specs.Str.{chars, is_utf8}
use lib.Utf8.{encode}
use Rattle.serde_json.specs.Data.{Data, number, unsigned, string, array, object, member, no_members}
use Rattle.serde_json.specs.View.{items_of}
use Rattle.num_format_text.specs.English.{english}
use Rattle.num_format.specs.Json.{buffer_in, format_in, format_json, NotByte, NotUtf8, TooLarge, Missing, WrongKind, TooLong, NotObject}

-- the array of these numbers
abbrev numbers : List ℕ → Data
numbers ns = array (items_of (map (λ n. number (unsigned n)) ns))

thousand : buffer_in (numbers (49 ∷ 44 ∷ 48 ∷ 48 ∷ 48 ∷ [])) ≡ Ok (codes "1,000")
unfolding chars encode is_utf8
thousand = refl

past_a_byte : buffer_in (numbers (255 ∷ 256 ∷ [])) ≡ Err NotByte
past_a_byte = refl

not_text : buffer_in (numbers (255 ∷ [])) ≡ Err NotUtf8
unfolding chars encode is_utf8
not_text = refl

-- 192 items are too many, even where one of them is no byte
too_large : buffer_in (numbers (256 ∷ replicate 191 48)) ≡ Err TooLarge
too_large = refl

no_object : format_in (array (items_of [])) ≡ Err NotObject
no_object = refl

no_key : format_in (object no_members) ≡ Err (Missing (codes "dec"))
no_key = refl

a_number : format_in (object (member (codes "dec") (number (unsigned 5)) no_members)) ≡ Err (WrongKind (codes "dec"))
a_number = refl

nine_bytes : format_in (object (member (codes "dec") (string (codes "123456789")) no_members)) ≡ Err (TooLong (codes "dec"))
nine_bytes = refl

third_key : format_in (object (member (codes "dec") (string (codes ".")) (member (codes "grp") (string (codes "Posix")) no_members)))
    ≡ Err (Missing (codes "inf"))
third_key = refl

en : format_in (format_json english) ≡ Ok english
en = refl
