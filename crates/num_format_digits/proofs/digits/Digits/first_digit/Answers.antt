use Rattle.std.proofs.Common.{◌≡◌, ◌+◌, ◌-◌, ◌≤◌, ◌%◌, ◌∙◌, ◌++◌, ap, arith, drop, get_or, refl, sym, take}
use Rattle.std.proofs.lemmas.Bool.{not-false}
use Rattle.std.proofs.lemmas.Bool.Decides.{Decides-eqb, nat_tests}
use Rattle.std.proofs.lemmas.List.{take-append-drop}
use Rattle.std.proofs.lemmas.Slice.Eq.{slice_eq-Decides}
use Rattle.num_format_digits.specs.Digits.{shown_byte}
use Rattle.num_format_digits.proofs.SetLemmas.{digit-taken, raised_by, zero-fits}
use Rattle.num_format_digits.proofs.digits.Digits.first_digit.Goals as goal

pub returns-clause-shown : goal.returns-clause-shown
returns-clause-shown c =
    let a = c.args in
    let k = a.width - 1 in
    let front : take k a.text.now ≡ take k a.zero.now =
    (slice_eq-Decides Decides-eqb (take k a.text.now) (take k a.zero.now) _ refl).0 (not-false _ (sym c.ne.ensures ∙ c.if-ne.false)) in
    let t = get_or a.text.now k 0 in
    let l = get_or a.zero.now k 0 in
    let short = c.if-text-width.false in
    let over = c.if-digit-gt9.false in
    let d = (t + (256 - l)) % 256 in
    let small : d ≤ 9 = grind (arith, nat_tests, over) in
    let fits = c.type_inv.text k in
    let raised = raised_by t l (omega (arith, fits)) (zero-fits a.self a.width a.zero.now c.requires.set c.requires.zero) small in
    sym (take-append-drop a.width a.text.now)
    ∙ ap (λ x. x ++ drop a.width a.text.now) (digit-taken a.self a.width a.zero.now a.text.now c.requires.set c.requires.zero front
    (grind (arith, nat_tests, short)) raised.0 raised.1)
    ∙ ap (λ n. shown_byte a.self (48 + n) ++ drop a.width a.text.now) (sym raised.2)
