-- Bytes in the ranges of a character of two or three bytes are UTF-8.
use Rattle.std.proofs.Common.{◌≡◌, ℕ, List, [], ◌∷◌, ◌≤◌, ◌<◌, true, false, length, take, drop, arith, subst, sym, ap, ◌∙◌, IsUtf8}
use Rattle.std.proofs.Common.{inl, inr}
use Rattle.std.specs.Prelude.{get_or, nat_lt, nat_le, ◌+◌, ◌-◌, ◌*◌, ◌/◌, ◌%◌}
use Rattle.std.proofs.lemmas.Bool.{cases_Bool, ltb-false, ltb-true}
use Rattle.std.proofs.lemmas.Bool.Decides.{nat_tests}
use Rattle.std.proofs.lemmas.List.{drop_more}
use Rattle.std.proofs.lemmas.Str.{IsUtf8-append, IsUtf8-encode, encode_ascii}
use lib.Seq.{take-add}
use lib.Utf8.{encode, scalar, low_scalar}

encode-two : (c : ℕ) → 128 ≤ c → c < 2048 → encode c ≡ (192 + c / 64) ∷ (128 + c % 64) ∷ []
unfolding encode
encode-two c least most =
    let a : nat_lt c 128 ≡ false = grind (arith, nat_tests) in
    let b : nat_lt c 2048 ≡ true = grind (arith, nat_tests) in
    rw (a, b)

encode-three : (c : ℕ) → 2048 ≤ c → c < 65536 → encode c ≡ (224 + c / 4096) ∷ (128 + c / 64 % 64) ∷ (128 + c % 64) ∷ []
unfolding encode
encode-three c least most =
    let a : nat_lt c 128 ≡ false = grind (arith, nat_tests) in
    let b : nat_lt c 2048 ≡ false = grind (arith, nat_tests) in
    let d : nat_lt c 65536 ≡ true = grind (arith, nat_tests) in
    rw (a, b, d)

high-scalar : (c : ℕ) → 57344 ≤ c → c < 65536 → scalar c ≡ true
high-scalar c least most =
    let a : nat_lt c 55296 ≡ false = grind (arith, nat_tests) in
    let b : nat_le 57344 c ≡ true = grind (arith, nat_tests) in
    let d : nat_lt c 1114112 ≡ true = grind (arith, nat_tests) in
    rw (a, b, d)

pub one : (bs : List ℕ) (at : ℕ) → at < length bs → get_or bs at 0 < 128 → IsUtf8 (take 1 (drop at bs))
one bs at within ascii =
    let x = get_or bs at 0 in
    subst IsUtf8 (encode_ascii x ascii
    ∙ sym (ap (take 1) (drop_more bs at 0 within))) (IsUtf8-encode x (low_scalar x (omega (arith, ascii))))

pub two : (bs : List ℕ) (at : ℕ) → at + 1 < length bs → 194 ≤ get_or bs at 0 → get_or bs at 0 < 224 → 128 ≤ get_or bs (at + 1) 0
    → get_or bs (at + 1) 0 < 192 → IsUtf8 (take 2 (drop at bs))
two bs at within least most from to =
    let x = get_or bs at 0 in
    let y = get_or bs (at + 1) 0 in
    let c = (x - 192) * 64 + (y - 128) in
    let p : x ≡ 192 + c / 64 = omega arith in
    let q : y ≡ 128 + c % 64 = omega arith in
    let bytes : take 2 (drop at bs) ≡ x ∷ y ∷ [] =
    ap (take 2) (drop_more bs at 0 (omega arith) ∙ ap (λ l. x ∷ l) (drop_more bs (at + 1) 0 within)) in
    subst IsUtf8 (sym (bytes ∙ ap (λ b. b ∷ y ∷ []) p ∙ ap (λ b. (192 + c / 64) ∷ b ∷ []) q
    ∙ sym (encode-two c (omega arith) (omega arith))))
    (IsUtf8-encode c (low_scalar c (omega arith)))

pub three : (bs : List ℕ) (at : ℕ) → at + 2 < length bs → 225 ≤ get_or bs at 0 → get_or bs at 0 < 240
    → (get_or bs at 0 ≡ 237 → ⊥) → 128 ≤ get_or bs (at + 1) 0 → get_or bs (at + 1) 0 < 192
    → 128 ≤ get_or bs (at + 2) 0 → get_or bs (at + 2) 0 < 192 → IsUtf8 (take 3 (drop at bs))
three bs at within least most apart from to from' to' =
    let x = get_or bs at 0 in
    let y = get_or bs (at + 1) 0 in
    let z = get_or bs (at + 2) 0 in
    let c = (x - 224) * 4096 + (y - 128) * 64 + (z - 128) in
    let p : x ≡ 224 + c / 4096 = omega arith in
    let q : y ≡ 128 + c / 64 % 64 = omega arith in
    let r : z ≡ 128 + c % 64 = omega arith in
    let is_scalar : scalar c ≡ true = elim (cases_Bool (nat_lt x 237)) [
      | inl less ↦ let below = ltb-true x 237 less in low_scalar c (omega arith)
      | inr more ↦ let above = ltb-false x 237 more in high-scalar c (omega arith) (omega arith)
    ] in
    let after : at + 1 + 1 ≡ at + 2 = omega arith in
    let bytes : take 3 (drop at bs) ≡ x ∷ y ∷ z ∷ [] =
    ap (take 3) (drop_more bs at 0 (omega arith)
    ∙ ap (λ l. x ∷ l) (drop_more bs (at + 1) 0 (omega arith)
    ∙ ap (λ l. y ∷ l) (ap (λ n. drop n bs) after ∙ drop_more bs (at + 2) 0 within))) in
    subst IsUtf8 (sym (bytes ∙ ap (λ b. b ∷ y ∷ z ∷ []) p ∙ ap (λ b. (224 + c / 4096) ∷ b ∷ z ∷ []) q
    ∙ ap (λ b. (224 + c / 4096) ∷ (128 + c / 64 % 64) ∷ b ∷ []) r ∙ sym (encode-three c (omega arith) (omega arith))))
    (IsUtf8-encode c is_scalar)

-- one character more
pub longer : (bs : List ℕ) (at n : ℕ) → IsUtf8 (take at bs) → IsUtf8 (take n (drop at bs)) → IsUtf8 (take (at + n) bs)
longer bs at n so_far next = subst IsUtf8 (sym (take-add at n bs)) (IsUtf8-append (take at bs) (take n (drop at bs)) so_far next)
