use Rattle.regroup_lines.proofs.Common.{ℕ, ◌+◌, ◌∙◌, ◌≡◌, ap, slice_range, arith, length-take, length-drop}
use Rattle.regroup_lines.proofs.InputLemmas.{range-later}
use Rattle.regroup_lines.proofs.input.Input.take_ended.Goals as goal

pub returns-clause-left : goal.returns-clause-left
returns-clause-left c =
    let input = c.args.self.now in
    let onward : input.start + c.args.len + 1 ≡ input.start + (c.args.len + 1) = omega arith in
    ap (λ start. slice_range input.array.now start input.end) onward
    ∙ range-later input.array.now input.start input.end (c.args.len + 1)
    (omega (arith, c.requires, length-take {A = ℕ}, length-drop {A = ℕ}))
