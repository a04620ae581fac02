use Rattle.std.proofs.Common.{◌≡◌, ◌+◌, ◌-◌, Some, length, arith, refl, ap, sym, subst, ◌∙◌}
use Rattle.num_format_affixes.specs.Sides.{IsWithoutBlanks, blank_len, without}
use Rattle.num_format_affixes.specs.Sides.IsWithoutBlanks.{none, one_less}
use Rattle.num_format_affixes.proofs.SideLemmas.{without-without}
use Rattle.num_format_affixes.proofs.side.Side.without_blanks.Goals as goal

pub loop-len-preserved : goal.loop-len-preserved
loop-len-preserved c =
    let side = c.args.self in
    let text = c.args.text.now in
    let left = c.loop-len.left.now in
    let len = c.in-Some.len in
    let kept = c.loop-len.invariant in
    let found : blank_len side left ≡ Some len = sym c.blank_len.ensures.value ∙ c.in-Some.is in
    let next = c.without-left.ensures.value in
    let more : length text - length left + len ≡ length text - length c.without-left.result.now =
    omega (arith, c.without-left.ensures.shorter, kept.2, c.in-Some.ensures) in (
      λ rest h. kept.0 rest (one_less len left found (subst (IsWithoutBlanks side rest) next h)),
      next ∙ ap (without side len) kept.1 ∙ without-without side len (length text - length left) text
          ∙ ap (λ n. without side n text) more,
      omega (arith, c.without-left.ensures.shorter, kept.2),
    )

pub returns-clause-value : goal.returns-clause-value
returns-clause-value c =
    c.loop-len.invariant.0 c.loop-len.left.now (none c.loop-len.left.now (sym c.blank_len.ensures.value ∙ c.in_default.is) refl)
