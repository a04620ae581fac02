-- Lines and their entries.
use Rattle.std.proofs.Common.{◌≡◌, ℕ, ◌<◌, ◌+◌, List, [], ◌∷◌, ◌++◌, length, take, drop, get_or, ap, sym, ◌∙◌, take-append-drop}
use Rattle.std.proofs.lemmas.List.{drop_more}
use Rattle.std.proofs.lemmas.List.Elements.{All-cons, All-nil}
use Rattle.std.specs.List.{AllZip}
use Rattle.num_format.specs.Format.{FormatData}
use Rattle.uses_ledger.specs.Entry.{IsLineOf, IsOfOneScale}
use Rattle.uses_ledger.specs.declared.entry.Entry.{Entry}
use Rattle.uses_ledger.specs.declared.entry.TheConstants.{SCALE}

-- a relation of two lists, one item of each more
pub all_zip_push : {A B : Type 0} (R : A → B → Type 0) (xs : List A) (ys : List B) (x : A) (y : B) → AllZip R xs ys → R x y
    → AllZip R (xs ++ (x ∷ [])) (ys ++ (y ∷ []))
all_zip_push R [] [] x y all last = (last, tt)
all_zip_push R [] (b ∷ ys) x y all last = absurd all
all_zip_push R (a ∷ xs) [] x y all last = absurd all
all_zip_push R (a ∷ xs) (b ∷ ys) x y all last = (all.0, all_zip_push R xs ys x y all.1 last)

-- the lines before one, that line, and those after it
pub split_at : (lines before : List (List ℕ)) (k : ℕ) (line : List ℕ) → before ≡ take k lines → k < length lines
    → line ≡ get_or lines k line →
    lines ≡ before ++ line ∷ drop (k + 1) lines
split_at lines before k line taken below is =
    rw taken (sym (take-append-drop k lines) ∙ ap (λ rest. take k lines ++ rest) (drop_more lines k line below
    ∙ ap (λ x. x ∷ drop (k + 1) lines) (sym is)))

-- the entries of lines are of one scale
pub one_scale : (f : FormatData) (lines : List (List ℕ)) (es : List Entry) → AllZip (IsLineOf f) lines es → IsOfOneScale es
one_scale f [] [] all = All-nil (λ e. e.amount.scale ≡ SCALE)
one_scale f [] (e ∷ es) all = absurd all
one_scale f (line ∷ lines) [] all = absurd all
one_scale f (line ∷ lines) (e ∷ es) all =
    All-cons (λ x. x.amount.scale ≡ SCALE) e es (ap (λ d. d.scale) all.0.amount.same) (one_scale f lines es all.1)
