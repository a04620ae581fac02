use Rattle.std.proofs.Common.{None, Option, Some, ap, arith, subst, sym, ℕ, ◌+◌, ◌-◌, ◌∙◌, ◌≡◌}
use Rattle.std.proofs.lemmas.Bool.{cond-true}
use Rattle.std.specs.Char.{IsScalar, is_ascii_digit}
use Rattle.std.specs.Prelude.{SomeIff, unwrap_or}
use Rattle.num_format_digits.proofs.SetLemmas.{digit-scalar}
use Rattle.regroup_faults.proofs.message.shown_in.Goals as goal

found : {P : Type 0} (o : Option ℕ) (n other : ℕ) → SomeIff o P n → P → unwrap_or o other ≡ n
found None n other none is = absurd (none is)
found (Some c) n other some is = some.1

pub returns : goal.returns
returns c =
    let a = c.args in
    let d = a.c - 48 in
    let digit = c.if-not-is_ascii_digit.ensures in
    let same = c.zero.ensures.value in
    let scalar = digit-scalar a.digits d c.zero.ensures.set (let h = digit.cases in omega arith) in
    c.unwrap_or.ensures
    ∙ found c.from_u32.result (c.zero.result + d) a.c c.from_u32.ensures.value (subst (λ z. IsScalar (z + d)) (sym same) scalar)
    ∙ ap (λ z. z + d) same ∙ sym (cond-true (is_ascii_digit a.c) (a.digits + d) a.c (sym digit.value))
