-- No affix takes a byte of a text that has characters of numbers alone.
use Rattle.std.proofs.Common.{◌≡◌, ◌≢◌, ℕ, suc, ◌+◌, ◌-◌, Bool, true, false, ◌&&◌, ◌==◌, if◌then◌else◌, List, [], ◌∷◌, ◌++◌, inl, inr}
use Rattle.std.proofs.Common.{Option, Some, None, IsUtf8, length, take, drop, arith, refl, ap, sym, subst, ◌∙◌}
use Rattle.std.specs.Prelude.{All, codes, encode_utf8}
use Rattle.std.specs.Borrow.{Bor}
use Rattle.std.specs.Char.Unicode.Alphabetic.{is_alphabetic}
use Rattle.std.specs.List.{list_all}
use Rattle.std.specs.Option.{option_map, option_or}
use Rattle.std.specs.Str.{chars, encode_utf8_all}
use Rattle.std.proofs.lemmas.Bool.{cases_Bool}
use Rattle.std.proofs.lemmas.Bool.Decides.{Decides-eqb}
use Rattle.std.proofs.lemmas.List.{append-nil}
use Rattle.std.proofs.lemmas.List.Folds.{list_all-append}
use Rattle.std.proofs.lemmas.Slice.Eq.{ends_is, starts_is}
use Rattle.std.proofs.lemmas.Str.{IsCharBoundary-at_seam, IsUtf8-from_ascii, IsUtf8-nil, IsUtf8-take, chars-append, encodes-chars}
use Rattle.std.proofs.lemmas.Str.Ascii.{IsAscii-cons, IsAscii-nil}
use Rattle.std.proofs.Math.Seq.{take-append_seam}
use Rattle.num_format_affixes.specs.Affixes.{IsSplit, affix_len, barred_from, ends_with_letter, error_of, first_error, first_len}
use Rattle.num_format_affixes.specs.Affixes.{has_pointed}
use Rattle.num_format_affixes.specs.Characters.{is_of_number}
use Rattle.num_format_affixes.specs.Sides.{IsWithout, is_at, without}
use Rattle.num_format_affixes.specs.declared.affixes.AffixError.TheVariants.{Empty, NumberCharacter}
use Rattle.num_format_affixes.specs.declared.parts.Parts.{Parts}
use Rattle.num_format_affixes.specs.declared.side.Side.{Side}
use Rattle.num_format_affixes.specs.declared.side.Side.TheVariants.{Start, End}
use Rattle.num_format_affixes.proofs.PartedLemmas.{tail}

-- a text has characters of numbers alone
abbrev pub is_own : List ℕ → Bool
is_own text = list_all is_of_number (chars text)

barred_first : (b : Bool) (later : Option ℕ) (all : Bool) → (if b && true then Some 0 else later) ≡ None → (b && all) ≡ false
barred_first true later all e = cc
barred_first false later all e = refl

-- the first character of an affix is no character of a number
first_free : (cs : List ℕ) → barred_from false 0 cs ≡ None → cs ≢ [] → list_all is_of_number cs ≡ false
first_free [] e some = absurd (some refl)
first_free (c ∷ cs) e some =
    barred_first (is_of_number c) (barred_from (is_alphabetic c) (0 + length (encode_utf8 c)) cs) (list_all is_of_number cs) e

both_none : {E : Type 0} (x y : Option E) → option_or x y ≡ None → (x ≡ None) × (y ≡ None)
both_none None y e = (refl, e)
both_none (Some x) y e = cc

else_none : {E : Type 0} (b : Bool) (x : E) (y : Option E) → (if b then Some x else y) ≡ None → (b ≡ false) × (y ≡ None)
else_none true x y e = cc
else_none false x y e = (refl, e)

map_none : {A B : Type 0} (f : A → B) (x : Option A) → option_map f x ≡ None → x ≡ None
map_none f None e = refl
map_none f (Some x) e = cc

affix_own : (index : ℕ) (affix : List ℕ) → IsUtf8 affix → error_of index affix ≡ None → is_own affix ≡ false
affix_own index affix u e =
    let barred = option_map (λ at. NumberCharacter index at) (barred_from false 0 (chars affix)) in
    let free = else_none (length affix == 0) (Empty index) barred e in
    first_free (chars affix) (map_none (λ at. NumberCharacter index at) (barred_from false 0 (chars affix)) free.1) (λ none.
    let empty : affix ≡ [] = sym (encodes-chars affix u) ∙ ap (λ cs. encode_utf8_all cs) none in
    let zero : (length affix == 0) ≡ true = ap (λ l. length l == 0) empty in
    cc)

and_false : (a c : Bool) → (a && (false && c)) ≡ false
and_false true c = refl
and_false false c = refl

-- a text is no text of numbers alone if a part of it is none
part_own : (text front part back : List ℕ) → text ≡ front ++ (part ++ back) → IsUtf8 front → IsUtf8 part → is_own part ≡ false
    → is_own text ≡ true → ⊥
part_own text front part back e u v other own =
    let cs : chars text ≡ chars front ++ (chars part ++ chars back) =
    ap chars e ∙ chars-append front (part ++ back) u ∙ ap (λ l. chars front ++ l) (chars-append part back v) in
    let all : is_own text ≡ (is_own front && (is_own part && is_own back)) =
    ap (list_all is_of_number) cs ∙ list_all-append is_of_number (chars front) (chars part ++ chars back)
    ∙ ap (λ b. is_own front && b) (list_all-append is_of_number (chars part) (chars back)) in
    let none : (is_own front && (is_own part && is_own back)) ≡ false =
    ap (λ b. is_own front && (b && is_own back)) other ∙ and_false (is_own front) (is_own back) in
    cc

front_utf8 : (text front back : List ℕ) → text ≡ front ++ back → IsUtf8 text → IsUtf8 back → IsUtf8 front
front_utf8 text front back e u v =
    subst IsUtf8 (ap (take (length front)) e ∙ take-append_seam front back)
    (IsUtf8-take text (length front) u (IsCharBoundary-at_seam text front back e v))

no_start : (affix text : List ℕ) → IsUtf8 affix → is_own affix ≡ false → is_own text ≡ true → is_at Start affix text ≡ false
no_start affix text u other own = elim (cases_Bool (is_at Start affix text)) [
  | inl there ↦
      absurd (part_own text [] affix (drop (length affix) text)
      ((starts_is Decides-eqb text affix (is_at Start affix text) refl).0 there) IsUtf8-nil u other own)
  | inr none ↦ none
]

no_end : (affix text : List ℕ) → IsUtf8 affix → IsUtf8 text → is_own affix ≡ false → is_own text ≡ true → is_at End affix text ≡ false
no_end affix text u v other own = elim (cases_Bool (is_at End affix text)) [
  | inl there ↦
      let front = take (length text - length affix) text in
      let e : text ≡ front ++ affix = (ends_is Decides-eqb text affix (is_at End affix text) refl).0 there in
      let whole : text ≡ front ++ (affix ++ []) = e ∙ ap (λ l. front ++ l) (sym (append-nil affix)) in
      absurd (part_own text front affix [] whole (front_utf8 text front affix e v u) u other own)
  | inr none ↦ none
]

and_left : (a b : Bool) → (a && b) ≡ true → a ≡ true
and_left true b e = refl
and_left false b e = cc

last_two : (a b : Bool) → (a ≡ true → b ≡ false) → (a && b) ≡ false
last_two true b h = h refl
last_two false b h = refl

neither : (p l a : Bool) (x y : Option ℕ) → p ≡ false → a ≡ false → (if p && l then x else if a then y else None) ≡ None
neither p l a x y e f = rw (e, f) refl

not_pointed : (side : Side) (affix text : List ℕ) → IsUtf8 affix → IsUtf8 text → is_own affix ≡ false → is_own text ≡ true
    → has_pointed side affix text ≡ false
not_pointed Start affix text u v other own =
    ap (λ b. b && is_at Start (codes ".") (without Start (length affix) text)) (no_start affix text u other own)
not_pointed End affix text u v other own =
    last_two (is_at End (codes ".") text) (is_at End affix (without End 1 text)) (λ point.
    let front = take (length text - 1) text in
    let e : text ≡ front ++ codes "." = (ends_is Decides-eqb text (codes ".") (is_at End (codes ".") text) refl).0 point in
    let ascii = IsAscii-cons 46 [] (omega arith) IsAscii-nil in
    let w : IsUtf8 front = front_utf8 text front (codes ".") e v (IsUtf8-from_ascii (codes ".") ascii) in
    let all : is_own text ≡ (is_own front && is_own (codes ".")) =
    ap is_own e ∙ ap (list_all is_of_number) (chars-append front (codes ".") w)
    ∙ list_all-append is_of_number (chars front) (chars (codes ".")) in
    no_end affix front u w other (and_left (is_own front) (is_own (codes ".")) (sym all ∙ own)))

no_affix : (side : Side) (affix text : List ℕ) → IsUtf8 affix → IsUtf8 text → is_own affix ≡ false → is_own text ≡ true
    → affix_len side affix text ≡ None
no_affix Start affix text u v other own =
    neither (has_pointed Start affix text) (ends_with_letter affix) (is_at Start affix text) (Some (length affix + 1)) (Some (length affix))
    (not_pointed Start affix text u v other own) (no_start affix text u other own)
no_affix End affix text u v other own =
    neither (has_pointed End affix text) (ends_with_letter affix) (is_at End affix text) (Some (length affix + 1)) (Some (length affix))
    (not_pointed End affix text u v other own) (no_end affix text u v other own)

no_affixes : (side : Side) (affixes : List (Bor (List ℕ))) (index : ℕ) (text : List ℕ) → All (λ affix. IsUtf8 affix.now) affixes
    → first_error index affixes ≡ None → IsUtf8 text → is_own text ≡ true → first_len side affixes text ≡ None
no_affixes side [] index text all e u own = refl
no_affixes side (affix ∷ affixes) index text all e u own =
    let both = both_none (error_of index affix.now) (first_error (index + 1) affixes) e in
    let utf8 : IsUtf8 affix.now = all 0 affix (omega arith) in
    let here : affix_len side affix.now text ≡ None = no_affix side affix.now text utf8 u (affix_own index affix.now utf8 both.0) own in
    ap (λ o. option_or o (first_len side affixes text)) here
    ∙ no_affixes side affixes (index + 1) text (λ k d within. all (suc k) d (omega arith)) both.1 u own

-- so its own text is the whole one
pub own_text : (affixes : List (Bor (List ℕ))) (text : List ℕ) (parts : Parts) → All (λ affix. IsUtf8 affix.now) affixes
    → first_error 0 affixes ≡ None → IsUtf8 text → is_own text ≡ true → IsSplit affixes text parts → parts.inner.now ≡ text
own_text affixes text parts all e u own split =
    let P : Option ℕ → Type 0 = λ o. IsWithout Start o text (tail parts) in
    let Q : Option ℕ → Type 0 = λ o. IsWithout End o (tail parts) parts.inner.now in
    let rest : tail parts ≡ text = subst P (no_affixes Start affixes 0 text all e u own) split.first in
    let none : first_len End affixes (tail parts) ≡ None = ap (first_len End affixes) rest ∙ no_affixes End affixes 0 text all e u own in
    let inner : parts.inner.now ≡ tail parts = subst Q none split.last in
    inner ∙ rest
