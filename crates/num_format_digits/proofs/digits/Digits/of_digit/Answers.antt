use Rattle.std.proofs.Common.{◌≡◌, ◌+◌, ◌<◌, ◌∷◌, ◌∙◌, ℕ, true, Some, ap, arith, drop, get_or, sym}
use Rattle.std.specs.Prelude.{find}
use Rattle.std.proofs.lemmas.Bool.{cond-true}
use Rattle.std.proofs.lemmas.List.{at_drop_all, at_drop_more}
use Rattle.num_format_digits.specs.Digits.{is_digit_of, zeros}
use Rattle.num_format_digits.specs.Sets.{sets}
use Rattle.num_format_digits.proofs.SetLemmas.{set-count}
use Rattle.num_format_digits.proofs.digits.Digits.of_digit.Goals as goal

-- one more zero
step : (ch i : ℕ) → i < 77 → find (λ z. is_digit_of z ch) (drop i (zeros sets)) ≡ find (λ z. is_digit_of z ch)
    (get_or (zeros sets) i 0 ∷ drop (i + 1) (zeros sets))
step ch i inside = at_drop_more (find (λ z. is_digit_of z ch)) (zeros sets) i 0 (omega (arith, set-count, inside))

pub returns-then-has : goal.returns-then-has
returns-then-has c =
    let i = c.loop-place.place in
    let ch = c.args.c in
    let z = get_or (zeros sets) i 0 in
    let yes : is_digit_of z ch ≡ true = ap (λ z. is_digit_of z ch) (sym c.at-digits.ensures) ∙ sym c.has.ensures ∙ c.if-has.true in
    ap Some c.at-digits.ensures
    ∙ sym (cond-true (is_digit_of z ch) (Some z) (find (λ z. is_digit_of z ch) (drop (i + 1) (zeros sets))) yes)
    ∙ sym (step ch i (omega arith))
    ∙ sym c.loop-place.invariant

pub returns : goal.returns
returns c =
    sym (c.loop-place.invariant ∙ at_drop_all (find (λ z. is_digit_of z c.args.c)) (zeros sets) c.loop-place.place
    (omega (arith, set-count, c.loop-place-test.false)))
