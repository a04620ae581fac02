-- Where a text is split at its last colon.
use Rattle.std.proofs.Common.{◌≡◌, ℕ, ◌<◌, Bool, true, false, List, [], ◌∷◌, ◌++◌, None, Some, arith, length, take, drop, get_or, refl, sym}
use Rattle.std.proofs.Common.{ap, ◌∙◌}
use Rattle.std.specs.Prelude.{◌≢◌, Option, suc, ◌==◌}
use Rattle.std.specs.Borrow.{Bor}
use Rattle.std.specs.Option.{option_map, MatchOption}
use Rattle.std.specs.Str.Pattern.{RFindsChar, SplitsAroundMatch}
use Rattle.std.proofs.lemmas.Bool.{false_from_ne_true}
use Rattle.std.proofs.lemmas.Bool.Decides.{Decides-eqb}
use Rattle.std.proofs.lemmas.List.{take-append-drop}
use Rattle.std.proofs.lemmas.Str.Pattern.{NoCharPasses-char, drop_at_char}
use Rattle.regroup_stream.specs.Words.{split_before, split_last}

-- a byte that is no colon does not split
split_before-none : (is : Bool) (b : ℕ) (bytes : List ℕ) → (b == 58) ≡ is → is ≡ false → split_before b bytes None ≡ None
split_before-none true b bytes same other = absurd (cc)
split_before-none false b bytes same other = rw same refl

-- a text with no colon is not split
split_last-none : (bytes : List ℕ) → ((i : ℕ) → i < length bytes → get_or bytes i 0 ≢ 58) → split_last bytes ≡ None
unfolding split_last
split_last-none [] without = refl
split_last-none (b ∷ bytes) without =
    ap (split_before b bytes) (split_last-none bytes (λ i within. without (suc i) (omega arith)))
    ∙ split_before-none (b == 58) b bytes refl (false_from_ne_true _ (λ is. without 0 (omega arith) ((Decides-eqb b 58).0 is)))

-- a text with no colon after this one is split here
split_last-at : (front back : List ℕ) → ((i : ℕ) → i < length back → get_or back i 0 ≢ 58)
    → split_last (front ++ 58 ∷ back) ≡ Some (front, back)
unfolding split_last
split_last-at [] back without = ap (split_before 58 back) (split_last-none back without)
split_last-at (b ∷ front) back without = ap (split_before b (front ++ 58 ∷ back)) (split_last-at front back without)

-- a colon is in ASCII
colon_ascii : 58 < 128
colon_ascii = omega arith

-- the definition is what `rsplit_once` returns
pub split_last_from_rsplit_once : (text : List ℕ) (r : Option (Bor (List ℕ) × Bor (List ℕ))) →
    MatchOption r (RFindsChar 58 text None) (λ x. SplitsAroundMatch (RFindsChar 58) text x.0.now x.1.now) →
    option_map (λ parts. (parts.0.now, parts.1.now)) r ≡ split_last text
split_last_from_rsplit_once text None none =
    sym (split_last-none text (λ i within is. NoCharPasses-char 58 text i none colon_ascii within is))
split_last_from_rsplit_once text (Some x) splits =
    let at : drop splits.0 text ≡ 58 ∷ drop splits.1 text = drop_at_char 58 text splits.0 splits.1 splits.2.1 colon_ascii in
    let without : (i : ℕ) → i < length (drop splits.1 text) → get_or (drop splits.1 text) i 0 ≢ 58 =
    λ i within is. NoCharPasses-char 58 (drop splits.1 text) i splits.2.0 colon_ascii within is in
    let whole : take splits.0 text ++ 58 ∷ drop splits.1 text ≡ text =
    ap (λ l. take splits.0 text ++ l) (sym at) ∙ take-append-drop splits.0 text in
    let split : split_last text ≡ Some (take splits.0 text, drop splits.1 text) =
    ap split_last (sym whole) ∙ split_last-at (take splits.0 text) (drop splits.1 text) without in
    ap (λ front. Some (front, x.1.now)) splits.3 ∙ ap (λ back. Some (take splits.0 text, back)) splits.4 ∙ sym split
