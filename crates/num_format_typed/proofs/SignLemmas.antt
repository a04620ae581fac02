-- A text without its sign.
use Rattle.std.proofs.Common.{◌≡◌, ℕ, true, false, List, ◌∷◌, ◌++◌, length, refl, ap, ◌∙◌, sym, subst, drop, take, arith, IsUtf8}
use Rattle.std.proofs.Common.{length-append}
use Rattle.std.specs.Prelude.{encode_utf8, nat_eq, ◌||◌}
use Rattle.std.specs.List.{starts_with}
use Rattle.std.specs.Str.{IsCharBoundary, chars, encode_utf8_all}
use Rattle.std.proofs.lemmas.Bool.Decides.{Decides-eqb}
use Rattle.std.proofs.lemmas.Slice.Eq.{starts_is}
use Rattle.std.proofs.lemmas.List.{take_at}
use Rattle.std.proofs.lemmas.Str.{IsCharBoundary-from_take, encode_same}
use Rattle.num_format_text.specs.Format.{FormatData}
use Rattle.num_format_typed.specs.Classes.{is_of}
use Rattle.num_format_typed.specs.Typed.{begins_with, core_of, first_is, unsigned}
use Rattle.num_format_typed.specs.declared.classes.Class.TheVariants.{Minus, Plus}

-- a character begins after a prefix of whole characters
pub boundary-past : (t p : List ℕ) → IsUtf8 t → IsUtf8 p → starts_with nat_eq t p ≡ true → IsCharBoundary t (length p)
boundary-past t p utf8 utf8_p begins =
    let found : t ≡ p ++ drop (length p) t = (starts_is Decides-eqb t p (starts_with nat_eq t p) refl).0 begins in
    let rest = drop (length p) t in
    IsCharBoundary-from_take t (length p) utf8 (omega (arith, ap length found, length-append p rest))
    (subst IsUtf8 (sym (ap (take (length p)) found ∙ take_at p rest (length p) refl)) utf8_p)

-- a text without its first character
first-dropped : (t rest : List ℕ) (c : ℕ) → chars t ≡ c ∷ chars rest → t ≡ encode_utf8 c ++ rest → encode_utf8_all (chars t) ≡ t
    → rest ≡ encode_utf8_all (drop 1 (chars t))
first-dropped t rest c first split whole =
    let same : encode_utf8 c ++ encode_utf8_all (chars rest) ≡ encode_utf8 c ++ rest = sym (ap encode_utf8_all first) ∙ whole ∙ split in
    sym (ap (λ cs. encode_utf8_all (drop 1 cs)) first ∙ (encode_same c c (encode_utf8_all (chars rest)) rest same).1)

-- a text that begins with another sign than the format's
pub unsigned-first : (f : FormatData) (t rest : List ℕ) (c : ℕ) → starts_with nat_eq t (core_of f) ≡ false
    → (is_of Minus c || is_of Plus c) ≡ true → chars t ≡ c ∷ chars rest → t ≡ encode_utf8 c ++ rest → encode_utf8_all (chars t) ≡ t
    → rest ≡ unsigned f t
unsigned-first f t rest c other sign first split whole =
    let signed : (begins_with Minus t || begins_with Plus t) ≡ true = ap (λ cs. first_is Minus cs || first_is Plus cs) first ∙ sign in
    rw (other, signed) (first-dropped t rest c first split whole)
