-- num_format_digits/proofs/printing/put_byte/Answers.antt
use Rattle.std.proofs.Common.{◌≡◌, ◌+◌, ◌-◌, ◌≤◌, ◌++◌, ◌∙◌, length, take, drop, ap, sym, arith, ℕ, List, [], ◌∷◌, get_or, set}
use Rattle.std.proofs.Common.{append_assoc, length-append}
use Rattle.std.specs.Prelude.{encode_utf8}
use Rattle.std.specs.Char.{is_ascii_digit}
use borrow.Rule.Slice.PartMut.{put_mid}
use Rattle.std.proofs.lemmas.Bool.{cond-true}
use Rattle.std.proofs.lemmas.List.{drop-set-lt, length-drop, length-take, length-take-le, take_more_set, take-take}
use Rattle.std.proofs.lemmas.Slice.{drop-put_mid, take-put_mid}
use Rattle.std.proofs.Math.Seq.{take-append-add}
use Rattle.num_format_digits.specs.Digits.{shown_byte}
use Rattle.num_format_digits.proofs.SetLemmas.{zero-fits, zero-raised}
use Rattle.num_format_digits.proofs.printing.put_byte.Goals as goal

-- so many bytes after others, which are at the start
after : (xs ys : List ℕ) (n k : ℕ) → n ≤ length xs → take (n + k) (take n xs ++ ys) ≡ take n xs ++ take k ys
after xs ys n k inside =
    let long = length-take-le n xs inside in
    ap (λ m. take (m + k) (take n xs ++ ys)) (sym long) ∙ take-append-add (take n xs) ys k

-- bytes written after others, of which the last is then replaced
raised : (xs ys bytes : List ℕ) (n w v : ℕ) → ys ≡ take w bytes → w ≤ length bytes → length ys ≡ length (take (n + w - n) (drop n xs))
    → 1 ≤ w →
    (take (n + w) (set (put_mid n (n + w - n) xs ys) (n + w - 1) v) ≡ take n xs ++ (take (w - 1) bytes ++ v ∷ []))
    × (drop (n + w) (set (put_mid n (n + w - n) xs ys) (n + w - 1) v) ≡ drop (n + w) xs)
raised xs ys bytes n w v same within room some =
    let b = put_mid n (n + w - n) xs ys in
    let i = n + w - 1 in
    let k = w - 1 in
    let next : n + w ≡ i + 1 = omega arith in
    let split : i ≡ n + k = omega arith in
    let wide : length ys ≡ w = ap length same ∙ length-take-le w bytes within in
    let fits : n + w ≤ length xs = omega (arith, wide, room, length-take (n + w - n) (drop n xs), length-drop n xs) in
    let inside : n ≤ length xs = omega arith in
    let written = take-put_mid n (n + w - n) xs ys (n + w) (omega (arith, wide)) inside in
    let long : n + w ≤ length b = omega (
      arith,
      length-take (n + w) b,
      ap length written,
      length-append (take n xs) ys,
      length-take-le n xs inside,
      wide,
    ) in
    let front : take k ys ≡ take k bytes = ap (take k) same ∙ take-take k w bytes (omega arith) in (
      ap (λ m. take m (set b i v)) next
          ∙ take_more_set b i v (omega arith)
          ∙ ap (λ t. t ++ v ∷ []) (sym (take-take i (n + w) b (omega arith)) ∙ ap (take i) written
          ∙ ap (λ m. take m (take n xs ++ ys)) split ∙ after xs ys n k inside ∙ ap (λ t. take n xs ++ t) front)
          ∙ append_assoc (take n xs) (take k bytes) (v ∷ []),
      drop-set-lt (n + w) b i v (omega arith) ∙ drop-put_mid n (n + w - n) xs ys (n + w) (omega arith) inside (omega (arith, wide)),
    )

pub overflow_add-array : goal.overflow_add-array
overflow_add-array c =
    let digit = c.if-not-is_ascii_digit.ensures.cases in
    omega (arith, zero-fits c.args.digits c.args.width c.args.zero.now c.requires.set c.requires.zero, digit)

pub returns-clause-text : goal.returns-clause-text
returns-clause-text c =
    let a = c.args in
    let digit = c.if-not-is_ascii_digit.ensures in
    let d = a.byte - 48 in
    let shown : shown_byte a.digits a.byte ≡ encode_utf8 (a.digits + d) =
    cond-true (is_ascii_digit a.byte) (encode_utf8 (a.digits + d)) (a.byte ∷ []) (sym digit.value) in
    let copied = c.copy_from_slice.ensures in
    (raised a.array.now c.copy_from_slice.new.self a.zero.now a.len a.width (get_or a.zero.now (a.width - 1) 0 + d)
    copied.after c.requires.zero.within copied.len c.requires.zero.some).0
    ∙ ap (λ t. take a.len a.array.now ++ t) (zero-raised a.digits a.width d a.zero.now c.requires.set
    (let h = digit.cases in omega arith) c.requires.zero ∙ sym shown)

pub returns-clause-rest : goal.returns-clause-rest
returns-clause-rest c =
    let a = c.args in
    let copied = c.copy_from_slice.ensures in
    (raised a.array.now c.copy_from_slice.new.self a.zero.now a.len a.width (get_or a.zero.now (a.width - 1) 0 + (a.byte - 48))
    copied.after c.requires.zero.within copied.len c.requires.zero.some).1
