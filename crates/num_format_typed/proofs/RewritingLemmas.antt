-- Characters taken off a list, and put for others.
use Rattle.std.proofs.Common.{◌≡◌, ℕ, inl, inr, Bool, true, false, List, [], ◌∷◌, ◌++◌, length, refl, ap, ◌∙◌, sym, arith, append-nil}
use Rattle.std.specs.Prelude.{◌==◌, IsUtf8, encode_utf8, map}
use Rattle.std.specs.Cmp.{first_so, second_so}
use Rattle.std.specs.List.{list_all}
use Rattle.std.specs.Str.{chars, encode_utf8_all}
use Rattle.std.proofs.lemmas.Bool.{cases_Bool, eqb-true}
use Rattle.std.proofs.lemmas.Str.{chars-nil, encodes-append, encodes-chars, encodes_same}
use Rattle.num_format_rewriting.specs.Rewriting.{images}
use Rattle.num_format_typed.specs.Trimming.{trim_end}

-- one more that passes at the end
all-push : (p : ℕ → Bool) (cs : List ℕ) (c : ℕ) → p c ≡ true → list_all p (cs ++ c ∷ []) ≡ list_all p cs
all-push p [] c passes = rw passes
all-push p (d ∷ cs) c passes = rw (all-push p cs c passes)

all-fails : (p : ℕ → Bool) (cs : List ℕ) (c : ℕ) → p c ≡ false → list_all p (cs ++ c ∷ []) ≡ false
all-fails p [] c fails = rw fails
all-fails p (d ∷ cs) c fails =
    elim (cases_Bool (p d)) [
      | inl passes ↦ rw (passes, all-fails p cs c fails)
      | inr other ↦ rw other
    ]

pub trim_end-push : (p : ℕ → Bool) (cs : List ℕ) (c : ℕ) → p c ≡ true → trim_end p (cs ++ c ∷ []) ≡ trim_end p cs
trim_end-push p [] c passes = rw passes
trim_end-push p (d ∷ cs) c passes = rw (all-push p (d ∷ cs) c passes, trim_end-push p cs c passes)

pub trim_end-kept : (p : ℕ → Bool) (cs : List ℕ) (c : ℕ) → p c ≡ false → trim_end p (cs ++ c ∷ []) ≡ cs ++ c ∷ []
trim_end-kept p [] c fails = rw fails
trim_end-kept p (d ∷ cs) c fails = rw (all-fails p (d ∷ cs) c fails, trim_end-kept p cs c fails)

-- a text of which each character is its own image
map-own : (image : ℕ → ℕ) (cs : List ℕ) → list_all (λ c. image c == c) cs ≡ true → map image cs ≡ cs
map-own image [] own = refl
map-own image (c ∷ cs) own =
    let first : image c ≡ c = eqb-true (image c) c (first_so _ _ own) in
    let others = map-own image cs (second_so _ _ own) in
    cc

pub images-own : (image : ℕ → ℕ) (t : List ℕ) → IsUtf8 t → list_all (λ c. image c == c) (chars t) ≡ true → images image t ≡ t
images-own image t utf8 own = ap encode_utf8_all (map-own image (chars t) own) ∙ encodes-chars t utf8

-- a text without bytes, and one with a character more
pub chars-none : (t : List ℕ) → length t ≡ 0 → chars t ≡ []
chars-none [] none = chars-nil
chars-none (b ∷ t) none = absurd (omega arith)

pub chars-push : (t front : List ℕ) (c : ℕ) → IsUtf8 t → IsUtf8 front → t ≡ front ++ encode_utf8 c → chars t ≡ chars front ++ c ∷ []
chars-push t front c utf8 utf8_front same =
    encodes_same (chars t) (chars front ++ c ∷ [])
    (encodes-chars t utf8
    ∙ same
    ∙ ap (λ b. b ++ encode_utf8 c) (sym (encodes-chars front utf8_front))
    ∙ ap (λ x. encode_utf8_all (chars front) ++ x) (sym (append-nil (encode_utf8 c)))
    ∙ sym (encodes-append (chars front) (c ∷ [])))

-- where characters that pass end from the end, or the one before them passes
pub end-stops : (p : ℕ → Bool) (all cs ds bytes : List ℕ) (c : ℕ) → trim_end p all ≡ trim_end p cs → cs ≡ ds ++ c ∷ [] → p c ≡ false
    → encode_utf8_all cs ≡ bytes → bytes ≡ encode_utf8_all (trim_end p all)
end-stops p all cs ds bytes c so_far last fails same =
    sym same ∙ ap encode_utf8_all (last ∙ sym (trim_end-kept p ds c fails) ∙ ap (trim_end p) (sym last) ∙ sym so_far)

pub end-passes : (p : ℕ → Bool) (all cs ds : List ℕ) (c : ℕ) → trim_end p all ≡ trim_end p cs → cs ≡ ds ++ c ∷ [] → p c ≡ true
    → trim_end p all ≡ trim_end p ds
end-passes p all cs ds c so_far last passes = so_far ∙ ap (trim_end p) last ∙ trim_end-push p ds c passes
