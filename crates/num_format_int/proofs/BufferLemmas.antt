-- The zeros before the text of a buffer, and what is copied before it.
use Rattle.std.proofs.Common.{◌≡◌, ℕ, ◌-◌, ◌+◌, ◌≤◌, List, [], ◌∷◌, ◌++◌, length, take, drop, arith, rules, ap, ◌∙◌, sym, refl}
use Rattle.std.proofs.Common.{length-drop, length-take-le, take-take, take_all}
use Rattle.std.proofs.lemmas.List.{length-replicate, take-replicate, replicate-append-replicate, drop-append-le, drop-drop, drop_at}
use Rattle.std.proofs.lemmas.Slice.{take-put_mid, drop-put_mid, overwrites}
use Rattle.std.specs.Str.{IsCharBoundary}
use Rattle.std.proofs.lemmas.Str.{IsUtf8-append, IsUtf8-drop, IsUtf8-had}
use borrow.Rule.Slice.PartMut.{put_mid}
use Rattle.std.specs.Prelude.{IsUtf8, replicate}

-- fewer zeros, which another list begins with too
pub zeros_kept : (xs ys : List ℕ) (start fewer : ℕ) → fewer ≤ start → take fewer ys ≡ take fewer xs → take start xs ≡ replicate start 0
    → take fewer ys ≡ replicate fewer 0
zeros_kept xs ys start fewer less same zeros = same ∙ rw (← take-take fewer start xs less, zeros, take-replicate {X = ℕ} fewer start 0 less)

-- zeros written right after others, or over the last of them
pub zeros_written : (xs : List ℕ) (start from count end : ℕ) → from ≤ start → from + count ≡ end → end ≤ length xs
    → take start xs ≡ replicate start 0 →
    take end (put_mid from (end - from) xs (replicate count 0)) ≡ replicate end 0
zeros_written xs start from count end before all within zeros =
    take-put_mid from (end - from) xs (replicate count 0) end (omega (arith, length-replicate {A = ℕ} count 0)) (omega arith)
    ∙ ap (λ t. t ++ replicate count 0) (zeros_kept xs xs start from before refl zeros)
    ∙ replicate-append-replicate {A = ℕ} from count 0
    ∙ ap (λ k. replicate k 0) all

-- the last 32 of 191 bytes set to zero, where the others are zeros
pub all_cleared : (xs zeros : List ℕ) (start : ℕ) → length xs ≡ 191 → 159 ≤ start → take start xs ≡ replicate start 0
    → zeros ≡ replicate 32 0 → put_mid 159 32 xs zeros ≡ replicate 191 0
all_cleared xs zeros start long before none all =
    let whole : length (put_mid 159 32 xs (replicate 32 0)) ≡ 191 = search (rules, overwrites, long) in
    rw all (sym (take_all 191 (put_mid 159 32 xs (replicate 32 0)) (omega arith))
    ∙ zeros_written xs start 159 32 191 before refl (omega arith) none)

-- what is written before a place, and what stood there
written : (xs ys : List ℕ) (place start : ℕ) → place ≤ length xs → start + length ys ≡ place
    → drop start (put_mid start (place - start) xs ys) ≡ ys ++ drop place xs
written xs ys place start within long =
    let before : length (take start xs) ≡ start = length-take-le start xs (omega arith) in
    let on : start + (place - start) ≡ place = omega arith in
    rw (drop_at (take start xs) (ys ++ drop (place - start) (drop start xs)) start before, drop-drop (place - start) start xs, on)

-- the same without its first elements
pub unskipped : (xs ys : List ℕ) (place start skipped : ℕ) → place ≤ length xs → start + length ys ≡ place → skipped ≤ length ys →
    drop (start + skipped) (put_mid start (place - start) xs ys) ≡ drop skipped ys ++ drop place xs
unskipped xs ys place start skipped within long few =
    sym (drop-drop skipped start (put_mid start (place - start) xs ys)) ∙ ap (drop skipped) (written xs ys place start within long)
    ∙ drop-append-le skipped ys (drop place xs) few

-- a text that is copied without its first bytes, before another text
pub unskipped_utf8 : (xs ys : List ℕ) (place start skipped : ℕ) → place ≤ length xs → start + length ys ≡ place → skipped ≤ length ys
    → IsUtf8 ys → IsCharBoundary ys skipped → ∥ IsUtf8 (drop place xs) ∥₁ →
    ∥ IsUtf8 (drop (start + skipped) (put_mid start (place - start) xs ys)) ∥₁
unskipped_utf8 xs ys place start skipped within long few whole boundary had =
    ∣ rw (unskipped xs ys place start skipped within long few)
    (IsUtf8-append _ _ (IsUtf8-drop ys skipped whole boundary) (IsUtf8-had _ had)) ∣₁

-- two bytes before a text set to zero, of which the first may be zero already
pub two_zeroed : (xs zeros : List ℕ) (first start : ℕ) → length xs ≡ 191 → take first xs ≡ replicate first 0 → 2 ≤ start
    → start ≤ first + 2 → first ≤ start → start ≤ 191 → zeros ≡ 0 ∷ 0 ∷ [] → ∥ IsUtf8 (drop start xs) ∥₁ →
    (start ≤ 191) × (length (put_mid (start - 2) (start - (start - 2)) xs zeros) ≡ 191)
    × (take start (put_mid (start - 2) (start - (start - 2)) xs zeros) ≡ replicate start 0)
    × ∥ IsUtf8 (drop start (put_mid (start - 2) (start - (start - 2)) xs zeros)) ∥₁
two_zeroed xs zeros first start long none some near before within both had =
    rw both (
      within,
      search (rules, overwrites, long),
      zeros_written xs first (start - 2) 2 start (omega arith) (omega arith) (omega arith) none,
      rw (drop-put_mid (start - 2) (start - (start - 2)) xs (0 ∷ 0 ∷ []) start (omega arith) (omega arith) (omega arith)) had,
    )

-- the bytes from a place on
pub utf8_from : (xs : List ℕ) (start count : ℕ) → length xs ≡ start + count → ∥ IsUtf8 (drop start xs) ∥₁
    → IsUtf8 (take count (drop start xs))
utf8_from xs start count long had = rw (take_all count (drop start xs) (omega (arith, length-drop start xs))) (IsUtf8-had _ had)

-- for a text that is copied before another
pub ruleset copied = (unskipped, unskipped_utf8)
