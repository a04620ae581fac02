-- Bytes that are one character.
use Rattle.std.proofs.Common.{◌≡◌, ◌<◌, ◌≤◌, ℕ, List, [], ◌∷◌, length, take, slice_index_or, append-nil, zero, suc, refl, Some, IsUtf8}
use Rattle.std.proofs.Common.{arith, rules}
use Rattle.std.proofs.lemmas.Str.{IsUtf8-encode}
use Rattle.std.proofs.Math.ListN.{drop_of_length-le}
use Rattle.bstr.specs.Utf8.{code_of_2, code_of_3, decoded}
use Rattle.bstr.proofs.lemmas.SoundLemmas.{SpellsChar-decoded}

-- a character that takes all bytes is a text
one_character : (bytes : List ℕ) (c : ℕ) → (decoded bytes).char ≡ Some c → (decoded bytes).size ≡ length bytes → IsUtf8 bytes
one_character bytes c char whole =
    let spells = SpellsChar-decoded bytes c char in
    let nothing = drop_of_length-le bytes {i = (decoded bytes).size} (omega arith) in
    rw (spells.bytes, nothing, append-nil) (IsUtf8-encode c spells.scalar)

-- nothing is a text, and so is one ASCII byte
pub one_byte : (bytes : List ℕ) (n : ℕ) → n ≤ 1 → 1 ≤ length bytes → slice_index_or bytes 0 0 < 0x80 → IsUtf8 (take n bytes)
one_byte [] n most some first = absurd (omega arith)
one_byte (a ∷ rest) zero most some first = ([], (refl, refl))
one_byte (a ∷ rest) (suc zero) most some first = one_character (a ∷ []) a (search (rules, first)) (search (rules, first))
one_byte (a ∷ rest) (suc (suc n)) most some first = absurd (omega arith)

-- a lead byte of two and a byte that continues it are a text
pub two_bytes : (bytes : List ℕ) → 2 ≤ length bytes → (0xC2 ≤ slice_index_or bytes 0 0) × (slice_index_or bytes 0 0 ≤ 0xDF) →
    (0x80 ≤ slice_index_or bytes 1 0) × (slice_index_or bytes 1 0 ≤ 0xBF) → IsUtf8 (take 2 bytes)
two_bytes [] some first second = absurd (omega arith)
two_bytes (a ∷ []) some first second = absurd (omega arith)
two_bytes (a ∷ b ∷ rest) some first second =
    one_character (a ∷ b ∷ []) (code_of_2 a b) (search (rules, first, second)) (search (rules, first, second))

-- most lead bytes of three and two bytes that continue one are a text
pub three_bytes : (bytes : List ℕ) → 3 ≤ length bytes → (0xE1 ≤ slice_index_or bytes 0 0) × (slice_index_or bytes 0 0 ≤ 0xEC) →
    (0x80 ≤ slice_index_or bytes 1 0) × (slice_index_or bytes 1 0 ≤ 0xBF)
    → (0x80 ≤ slice_index_or bytes 2 0) × (slice_index_or bytes 2 0 ≤ 0xBF) → IsUtf8 (take 3 bytes)
three_bytes [] some first second third = absurd (omega arith)
three_bytes (a ∷ []) some first second third = absurd (omega arith)
three_bytes (a ∷ b ∷ []) some first second third = absurd (omega arith)
three_bytes (a ∷ b ∷ c ∷ rest) some first second third =
    one_character (a ∷ b ∷ c ∷ []) (code_of_3 a b c) (search (rules, first, second, third)) (search (rules, first, second, third))
