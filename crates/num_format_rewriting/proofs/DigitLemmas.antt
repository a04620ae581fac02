-- Digits that stand for themselves.
use Rattle.std.proofs.Common.{◌≡◌, ℕ, ◌<◌, List, ◌∷◌, ◌++◌, [], true, take, sym, ap, ◌∙◌, length, arith, IsUtf8}
use Rattle.std.specs.Prelude.{encode_utf8, map, get_or, set, ◌+◌}
use Rattle.std.specs.Char.{is_ascii_digit}
use Rattle.std.specs.Str.{IsCharBoundary, chars, encode_utf8_all}
use Rattle.std.proofs.lemmas.Bool.Decides.{nat_tests}
use Rattle.std.proofs.lemmas.List.{append_assoc, take_more_set}
use Rattle.std.proofs.lemmas.Str.{IsCharBoundary-after_ascii, chars_past_char, encode_ascii}
use Rattle.num_format_rewriting.specs.Rewriting.{KeepsDigits, images}

pub ascii : (d : ℕ) → is_ascii_digit d ≡ true → d < 128
ascii d digit = grind (arith, nat_tests)

-- a text that begins with a digit
pub past-digit : (t rest : List ℕ) (d : ℕ) → IsUtf8 t → t ≡ d ∷ rest → is_ascii_digit d ≡ true → IsCharBoundary t 1
past-digit t rest d utf8 same digit =
    let first : get_or t 0 0 ≡ d = ap (λ l. get_or l 0 0) same in
    IsCharBoundary-after_ascii t 0 utf8 (omega (arith, ap length same)) (omega (arith, first, ascii d digit))

pub images-digit : (image : ℕ → ℕ) (t rest : List ℕ) (d : ℕ) → KeepsDigits image → IsUtf8 t → t ≡ d ∷ rest → is_ascii_digit d ≡ true
    → images image t ≡ d ∷ images image rest
images-digit image t rest d keeps utf8 same digit =
    let one = encode_ascii d (ascii d digit) in
    let first : chars t ≡ d ∷ chars rest = chars_past_char t rest d utf8 (same ∙ ap (λ e. e ++ rest) (sym one)) in
    ap (λ cs. encode_utf8_all (map image cs)) first ∙ ap (λ e. encode_utf8 e ++ images image rest) (keeps d digit)
    ∙ ap (λ e. e ++ images image rest) one

-- one more digit is written after the bytes so far
pub digit-written : (image : ℕ → ℕ) (xs all left rest : List ℕ) (n d : ℕ) → KeepsDigits image → IsUtf8 left → n < length xs
    → left ≡ d ∷ rest → is_ascii_digit d ≡ true → take n xs ++ images image left ≡ all
    → take (n + 1) (set xs n d) ++ images image rest ≡ all
digit-written image xs all left rest n d keeps utf8 within same digit so_far =
    ap (λ l. l ++ images image rest) (take_more_set xs n d within)
    ∙ append_assoc (take n xs) (d ∷ []) (images image rest)
    ∙ ap (λ l. take n xs ++ l) (sym (images-digit image left rest d keeps utf8 same digit))
    ∙ so_far
