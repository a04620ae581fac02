-- The bytes that an input holds, read after read.
use Rattle.regroup_lines.proofs.Common.{◌≢◌, get_or, is_inside, Consumes, Consumes-kept, Consumes-nil}
use Rattle.regroup_lines.proofs.Common.{Consumes-trans, FindsPiece, HasNoEnd, Input, IsAtEnd, IsRecord, Keeps, List, Option}
use Rattle.regroup_lines.proofs.Common.{CsvState, InputPiece, Range, Reads, Searched, [], ap, append-nil, append_assoc, arith, array_len}
use Rattle.regroup_lines.proofs.Common.{bytes_at}
use Rattle.regroup_lines.proofs.Common.{drop, drop-append-le, drop-drop, drop-take, drop_at, ended_by, false, held, length}
use Rattle.regroup_lines.proofs.Common.{length-drop, length-take-le, refl, slice_range, subst, sym, take, take-add, take-append-le}
use Rattle.regroup_lines.proofs.Common.{take_all, take_at, take_rest, ℕ, ◌++◌, ◌+◌, ◌-◌, ◌<◌, ◌∙◌, ◌∷◌, ◌≡◌, ◌≤◌}
use Rattle.regroup_lines.proofs.RecordLemmas.{Ends, Ends-on, Ends-parts, Ends-record, Ends-same, Searched-all, Searched-longer}
use Rattle.std.proofs.lemmas.List.{take_more}
use Rattle.regroup_lines.specs.Input.{IsEndedAt}
use borrow.Rule.Slice.PartMut.{put_mid, post_of}
use Rattle.regroup_lines.specs.declared.input.InputPiece.TheVariants as piece

-- a range of an array without its first n bytes
pub range-later : (xs : List ℕ) (start end n : ℕ) → start + n ≤ end → slice_range xs (start + n) end ≡ drop n (slice_range xs start end)
range-later xs start end n inside =
    let parts : end - start ≡ n + (end - (start + n)) = omega arith in
    sym (ap (λ j. drop n (take j (drop start xs))) parts ∙ drop-take n _ (drop start xs)
    ∙ ap (take (end - (start + n))) (drop-drop n start xs))

-- a range of an array, and n bytes that were written after its end
pub range-more : (xs ys : List ℕ) (start end k n : ℕ) → start ≤ end → end ≤ length xs → n ≤ length ys →
    slice_range (put_mid end k xs ys) start (end + n) ≡ slice_range xs start end ++ take n ys
range-more xs ys start end k n ordered within fits =
    let front = length-take-le end xs within in
    let range = drop start (take end xs) in
    let len : length range ≡ end - start = omega (arith, length-drop start (take end xs)) in
    let sum : end + n - start ≡ (end - start) + n = omega arith in
    let parts : end ≡ start + (end - start) = omega arith in
    let same : range ≡ take (end - start) (drop start xs) = ap (λ j. drop start (take j xs)) parts ∙ drop-take start (end - start) xs in
    let after = ys ++ post_of end k xs in
    ap (take (end + n - start)) (drop-append-le start (take end xs) after (omega arith))
    ∙ ap (λ j. take j (range ++ after)) sum ∙ take-add (end - start) n (range ++ after)
    ∙ (rw (take_at range after _ len, drop_at range after _ len, take-append-le n ys (post_of end k xs) fits, same) refl)

-- and where nothing was written
pub range-same : (xs ys : List ℕ) (start end k : ℕ) → start ≤ end → end ≤ length xs
    → slice_range (put_mid end k xs ys) start end ≡ slice_range xs start end
range-same xs ys start end k ordered within =
    let none : end ≡ end + 0 = omega arith in
    ap (slice_range (put_mid end k xs ys) start) none ∙ range-more xs ys start end k 0 ordered within (omega arith) ∙ append-nil _

-- nothing was read yet
pub Reads-none : (bytes : List ℕ) (a : Option (List ℕ)) → Reads bytes bytes a a
Reads-none bytes a = record { given = []; joined = append-nil bytes; consumed = Consumes-nil a }

-- the bytes of two reads
pub Reads-trans : (xs ys zs : List ℕ) (a b c : Option (List ℕ)) → Reads xs ys a b → Reads ys zs b c → Reads xs zs a c
Reads-trans xs ys zs a b c first second = record {
  given = first.given ++ second.given;
  joined = sym (append_assoc xs first.given second.given) ∙ ap (λ l. l ++ second.given) first.joined ∙ second.joined;
  consumed = Consumes-trans a b c first.given second.given first.consumed second.consumed;
}

-- a read that gives these bytes
pub Reads-more : (xs ys more : List ℕ) (a b c : Option (List ℕ)) → Reads xs ys a b → Consumes b c more → Reads xs (ys ++ more) a c
Reads-more xs ys more a b c first second = Reads-trans xs ys (ys ++ more) a b c first (record {
  given = more;
  joined = refl;
  consumed = second;
})

-- a read that fails
pub Reads-kept : (xs ys : List ℕ) (a b : Option (List ℕ)) → ys ≡ xs → Keeps a b → Reads xs ys a b
Reads-kept xs ys a b same kept = record {
  given = [];
  joined = append-nil xs ∙ sym same;
  consumed = Consumes-kept a a b [] (Consumes-nil a) kept;
}

-- a read that gives nothing
read-nothing : (xs ys : List ℕ) (a b : Option (List ℕ)) → Reads xs ys a b → length ys ≤ length xs → ys ≡ xs
read-nothing xs ys a b read same = sym (take_all (length xs) ys same) ∙ ap (take (length xs)) (sym read.joined)
    ∙ take_at xs read.given (length xs) refl

-- a text at a place, and the byte that ends it
pub ended-at : (e : ℕ) (input : Input) (place : Range ℕ) (text ended : List ℕ) → text ≡ bytes_at input place
    → ended ≡ slice_range input.array.now place.start (place.end + 1) → IsEndedAt e input place → ended ≡ ended_by e text
ended-at e input place text ended same is at_place = is ∙ at_place.2 ∙ ap (ended_by e) (sym same)

-- a piece that was found, in other words
module _ (q : Option ℕ) (e : ℕ) (w : CsvState) (before : List ℕ) (input : Input) (a b : Option (List ℕ)) (found : InputPiece)
    (finds : FindsPiece q e w before input a b found) (place : Range ℕ) (text : List ℕ) (same : text ≡ bytes_at input place) where
  pub found-line : found ≡ piece.Line place → Reads before (text ++ e ∷ held input) a b × IsRecord q e w text
      × (length text < array_len input)
  found-line is = subst (λ l. Reads before (l ++ e ∷ held input) a b × IsRecord q e w l
      × (length l < array_len input)) (sym same) (subst (FindsPiece q e w before input a b) is finds)

  pub found-rest : found ≡ piece.Rest place → Reads before text a b × HasNoEnd q e w text × (length text < array_len input) × IsAtEnd b
  found-rest is = subst (λ l. Reads before l a b × HasNoEnd q e w l × (length l < array_len input)
      × IsAtEnd b) (sym same) (subst (FindsPiece q e w before input a b) is finds)

-- the bytes that are held, and the array
pub held_len : (input : Input) → length (held input) ≡ input.end - input.start
held_len input =
    length-take-le (input.end - input.start) (drop input.start input.array.now) (omega (arith, length-drop input.start input.array.now))

-- a search of the bytes that are held, of which the first n are searched
module _ (input : Input) {p q : Option ℕ} {e : ℕ} {w here after : CsvState} {rest : List ℕ} {n len : ℕ} (same : p ≡ q)
    (so_far : Searched q e w (held input) n here)
    (is : rest ≡ slice_range (held input) n (length (held input))) (more : Searched p e here rest len after) (found : len < length rest
    → (get_or rest len 0 ≡ e) × (is_inside after ≡ false)) where
  rest_is : rest ≡ drop n (held input)
  rest_is = is ∙ take_rest (held input) n

  ends : Ends q e w (held input) (n + len) after
  ends = Ends-on so_far (Ends-same same rest_is (more, found))

  pub held_more : len < length rest → n + len < length (held input)
  held_more low = omega (arith, low, ap length rest_is, length-drop n (held input))

  -- up to the byte that ends a record
  pub record_found : {before : List ℕ} {a b : Option (List ℕ)} → Reads before (held input) a b → n + len < length (held input)
      → (text left : List ℕ) →
      text ≡ take (n + len) (held input) → left ≡ drop (n + len + 1) (held input)
      → Reads before (text ++ e ∷ left) a b × IsRecord q e w text
  record_found {before} {a} {b} read low text left is_text is_left = rw (
    is_text,
    is_left,
  ) (subst (λ l. Reads before l a b) (Ends-parts ends low) read, Ends-record ends low)

  pub record_ended : len < length rest → take (n + len + 1) (held input) ≡ take (n + len) (held input) ++ e ∷ []
  record_ended low =
      take_more (held input) (n + len) 0 (held_more low) ∙ ap (λ b. take (n + len) (held input) ++ b ∷ []) (ends.1 (held_more low)).0

  -- up to their end
  module _ (all : length rest ≤ len) where
    pub held_all : n + len ≡ length (held input)
    held_all = let inside = ends.0.inside in omega (arith, all, inside, ap length rest_is, length-drop n (held input))

    pub held_none : HasNoEnd q e w (held input)
    held_none = Searched-all ends.0 (omega (arith, held_all))

    pub held_room : n + len ≢ array_len input → length (held input) < array_len input
    held_room room = omega (arith, held_all, held_len input)

    -- and then a read
    module _ {read : List ℕ} {b c : Option (List ℕ)} (reads : Reads (held input) read b c) where
      pub Searched-read : Searched q e w read (n + len) after
      Searched-read = subst (λ l. Searched q e w l (n + len) after) reads.joined (Searched-longer ends.0 reads.given)

      pub rest_found : {before : List ℕ} {a : Option (List ℕ)} → Reads before (held input) a b → length read ≤ length (held input)
          → (text : List ℕ) → text ≡ read →
          Reads before text a c × HasNoEnd q e w text × (text ≡ held input)
      rest_found {before} {a} first nothing text is_text =
          let none = read-nothing (held input) read b c reads nothing in
          let same_text : text ≡ held input = is_text ∙ none in (
            subst (λ l. Reads before l a c) (none ∙ sym same_text) (Reads-trans before (held input) read a b c first reads),
            subst (HasNoEnd q e w) (sym same_text) held_none,
            same_text,
          )
