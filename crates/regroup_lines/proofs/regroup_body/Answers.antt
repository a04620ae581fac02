use Rattle.regroup_lines.proofs.Common.{SendsLine, ap, arith, err_from_is_err_and, false, false_from_ne_true, leb-true, length}
use Rattle.regroup_lines.proofs.Common.{line_fault_of, nat_le, place_written, refl, result_map_both, slice_range, subst, sym}
use Rattle.regroup_lines.proofs.Common.{unmarked_written, ◌≡◌}
use Rattle.regroup_lines.proofs.AddLemmas.{body-added, body-fault, body-sends, place-after}
use Rattle.regroup_lines.proofs.regroup_body.Goals as goal
use Rattle.regroup_lines.proofs.regroup_body.Goals.{in-Line, in-Trimmed}

pub returns-in_err-append_body-in-Fields : goal.returns-in_err-append_body-in-Fields
returns-in_err-append_body-in-Fields g c =
    let p = err_from_is_err_and c.from_residual.result c.from_residual.ensures.1 in
    rw (p.1, p.2) (body-fault c.args.setup.now.rules.now c.args.setup.now.parser c.args.setup.now.to.now c.args.line.now.number
    c.args.line.now.text.now _ c.mark_len-mark_len.ensures.value _ _ c.restart.ensures _ c.in_err-append_body-in-Fields.ensures _)

pub returns-in-Fields : goal.returns-in-Fields
returns-in-Fields g c =
    body-added c.args.setup.now.rules.now c.args.setup.now.parser c.args.setup.now.to.now c.args.line.now.number
    c.args.line.now.text.now _ c.mark_len-mark_len.ensures.value _ _ c.restart.ensures c.in_ok-append_body-in-Fields.ensures _ _ _
    c.send.ensures

pub returns : goal.returns
returns g c =
    let setup = c.args.setup.now in
    let rules = setup.rules.now in
    let number = c.args.line.now.number in
    let text = c.args.line.now.text.now in
    let n = c.mark_len-mark_len.result in
    let rest = slice_range text n (length text) in
    let place = c.match-rules.place in
    let header : nat_le number rules.header_lines ≡ false =
    false_from_ne_true (nat_le number rules.header_lines) (λ yes. let low = leb-true number rules.header_lines yes
    in omega (arith, low, c.if-line-rules.false)) in
    let same : unmarked_written rules setup.parser setup.to.now number rest
    ≡ place_written rules setup.parser setup.to.now number rest (place.start, place.end) =
    elim c.match-rules.branch [
      | in-Line w ↦ rw (header, w.in-Line.is, w.place-is) refl
      | in-Trimmed w ↦ rw (header, w.in-Trimmed.is, w.place-is) (ap (place_written rules setup.parser setup.to.now number rest)
          (sym (rw w.trim.ensures.place at w.without_affixes-place.ensures.place)))
    ] in
    body-sends rules setup.parser setup.to.now number text n c.mark_len-mark_len.ensures.value _ same _ _ _
    (subst (λ x. SendsLine rules.line_end x (g.W.Write.contents c.args.w.now) (g.W.Write.contents c.regroup_place.new.w)
    (result_map_both (λ sent. sent) line_fault_of c.regroup_place.result))
    (place-after rules setup.parser setup.to.now number text n c.mark_len-mark_len.ensures.value place.start place.end)
    c.regroup_place.ensures)
