use Rattle.regroup_lines.proofs.Common.{Some, ap, arith, drop, err_from_is_err_and, get_or, get_or-drop, length, length-drop, refl}
use Rattle.regroup_lines.proofs.Common.{slice_range, subst, sym, ◌+◌, ◌-◌, ◌∙◌, ◌≡◌, ◌<◌, ◌≤◌}
use Rattle.regroup_lines.proofs.FieldLemmas.{IsNext, Past, begun-done, begun-fault, begun-kept, begun-none, begun-written, left-later}
use Rattle.regroup_lines.proofs.FieldLemmas.{next-is, next-kept, next-later, past-last, past-next, split-ended}
use Rattle.regroup_lines.proofs.fields.Line.append.Goals as goal
use Rattle.regroup_lines.proofs.fields.Line.append.Goals.{else-count-next, then-count-next+in_ok-append_field}

pub fields-init : goal.fields-init
fields-init g c =
    let line = c.args.self.now in
    let start : length c.args.line.now - length c.args.line.now ≡ 0 = omega arith in (
      omega arith,
      omega arith,
      omega arith,
      rw start refl,
      rw c.next-changed.ensures (next-is line.fields.now 1),
      rw start (begun-none line.setup.now.rules.now line.fields.now line.setup.now.parser line.setup.now.to.now line.number c.args.line.now
          c.args.text.now),
    )

pub returns-in_default : goal.returns-in_default
returns-in_default g c =
    let line = c.args.self.now in
    let start = length c.args.line.now - length c.fields.rest.now in
    let past = rw c.in_default.is at c.fields.invariant.4 in
    begun-done line.setup.now.rules.now line.fields.now line.setup.now.parser line.setup.now.to.now line.number c.args.line.now
    c.args.text.now c.fields.text c.fields.kept start c.fields.count c.fields.invariant.5 c.fields.invariant.0 (omega arith) past.0 past.1
    _ c.append.ensures

pub returns-in_err-append_field : goal.returns-in_err-append_field
returns-in_err-append_field g c =
    let line = c.args.self.now in
    let start = length c.args.line.now - length c.fields.rest.now in
    let split = split-ended line.fields.now _ c.quotes-quotes.ensures c.args.line.now c.fields.rest.now start _ _ (omega arith)
    c.fields.invariant.3 (c.find_end-len.ensures.searched, c.find_end-len.ensures.found) in
    let p = err_from_is_err_and c.from_residual.result c.from_residual.ensures.1 in
    rw (p.1, p.2) (begun-fault line.setup.now.rules.now line.fields.now line.setup.now.parser line.setup.now.to.now line.number
    c.args.line.now c.args.text.now c.fields.text c.fields.kept start (start + c.find_end-len.result.0) c.fields.count c.fields.invariant.0
    (omega arith) c.fields.invariant.5 split.0 split.1 _ c.number_after-count.ensures.number _ _ c.append-then-count-next.ensures _
    c.in_err-append_field.ensures)

pub returns-then-len-rest : goal.returns-then-len-rest
returns-then-len-rest g c =
    let line = c.args.self.now in
    let fields = line.fields.now in
    let start = length c.args.line.now - length c.fields.rest.now in
    let end = start + c.find_end-len.result.0 in
    let split = split-ended fields _ c.quotes-quotes.ensures c.args.line.now c.fields.rest.now start _ _ (omega arith)
    c.fields.invariant.3 (c.find_end-len.ensures.searched, c.find_end-len.ensures.found) in
    let next = rw c.in-Some.is at c.fields.invariant.4 in
    let counted = c.number_after-count.ensures.number in
    let past : Past line.setup.now.rules.now fields line.setup.now.parser line.setup.now.to.now line.number c.args.line.now c.args.text.now
    c.if-count-next.kept end c.number_after-count.result split.0 c.if-count-next.text =
    elim c.if-count-next.branch [
      | then-count-next+in_ok-append_field w ↦
          rw (w.kept-is, w.text-is) (begun-written line.setup.now.rules.now fields line.setup.now.parser line.setup.now.to.now line.number
          c.args.line.now c.args.text.now c.fields.text c.fields.kept start end c.fields.count c.fields.invariant.0 (omega arith)
          c.fields.invariant.5 split.0 split.1 _ counted _ _ w.append-then-count-next.ensures w.in_ok-append_field.ensures)
      | else-count-next w ↦
          let kept = next-kept fields c.fields.count _ _ counted c.in-Some.next next (omega (arith, w.if-count-next.false)) in
          rw (w.kept-is, w.text-is) (begun-kept line.setup.now.rules.now fields line.setup.now.parser line.setup.now.to.now line.number
          c.args.line.now c.args.text.now c.fields.text c.fields.kept start end c.fields.count c.fields.invariant.0 (omega arith)
          c.fields.invariant.5 split.0 split.1 _ counted kept.0 kept.1)
    ] in
    let low : c.if-count-next.kept ≤ end = elim c.if-count-next.branch [
      | then-count-next+in_ok-append_field w ↦ omega (arith, w.kept-is)
      | else-count-next w ↦ omega (arith, w.kept-is, c.fields.invariant.0)
    ] in
    past-last line.setup.now.rules.now fields line.setup.now.parser line.setup.now.to.now line.number c.args.line.now c.args.text.now
    c.if-count-next.text c.if-count-next.kept end c.number_after-count.result low split.0 past (omega (arith, c.if-len-rest.true))
    (split.2 (omega (arith, c.if-len-rest.true))) _ _ c.end.ensures

pub fields-preserved : goal.fields-preserved
fields-preserved g c =
    let line = c.args.self.now in
    let fields = line.fields.now in
    let text = c.args.line.now in
    let start = length text - length c.fields.rest.now in
    let end = start + c.find_end-len.result.0 in
    let split = split-ended fields _ c.quotes-quotes.ensures text c.fields.rest.now start _ _ (omega arith)
    c.fields.invariant.3 (c.find_end-len.ensures.searched, c.find_end-len.ensures.found) in
    let next = rw c.in-Some.is at c.fields.invariant.4 in
    let counted = c.number_after-count.ensures.number in
    let past : Past line.setup.now.rules.now fields line.setup.now.parser line.setup.now.to.now line.number text c.args.text.now
    c.if-count-next.kept end c.number_after-count.result split.0 c.if-count-next.text =
    elim c.if-count-next.branch [
      | then-count-next+in_ok-append_field w ↦
          rw (w.kept-is, w.text-is) (begun-written line.setup.now.rules.now fields line.setup.now.parser line.setup.now.to.now line.number
          text c.args.text.now c.fields.text c.fields.kept start end c.fields.count c.fields.invariant.0 (omega arith)
          c.fields.invariant.5 split.0 split.1 _ counted _ _ w.append-then-count-next.ensures w.in_ok-append_field.ensures)
      | else-count-next w ↦
          let kept = next-kept fields c.fields.count _ _ counted c.in-Some.next next (omega (arith, w.if-count-next.false)) in
          rw (w.kept-is, w.text-is) (begun-kept line.setup.now.rules.now fields line.setup.now.parser line.setup.now.to.now line.number
          text c.args.text.now c.fields.text c.fields.kept start end c.fields.count c.fields.invariant.0 (omega arith)
          c.fields.invariant.5 split.0 split.1 _ counted kept.0 kept.1)
    ] in
    let low : c.if-count-next.kept ≤ end = elim c.if-count-next.branch [
      | then-count-next+in_ok-append_field w ↦ omega (arith, w.kept-is)
      | else-count-next w ↦ omega (arith, w.kept-is, c.fields.invariant.0)
    ] in
    let inside = split.4 in
    let left = slice_range c.fields.rest.now (c.find_end-len.result.0 + 1) (length c.fields.rest.now) in
    let is : left ≡ drop (end + 1) text = left-later text c.fields.rest.now start c.find_end-len.result.0 c.fields.invariant.3 in
    let len : length left ≡ length text - (end + 1) = ap length is ∙ length-drop (end + 1) text in
    let below : c.find_end-len.result.0 < length c.fields.rest.now =
    omega (arith, c.if-len-rest.false, c.find_end-len.ensures.searched.inside) in
    let onward : length text - length left ≡ end + 1 = omega (arith, len, inside, below) in
    let byte : get_or text end 0 ≡ fields.delimiter =
    sym (get_or-drop start text c.find_end-len.result.0 0) ∙ ap (λ l. get_or l c.find_end-len.result.0 0) (sym c.fields.invariant.3)
    ∙ (c.find_end-len.ensures.found below).0 in (
      c.separate-kept.ensures.within (omega (arith, low, onward)),
      omega (arith, len),
      omega (arith, onward, c.fields.invariant.2, c.number_after-count.ensures.most),
      is ∙ ap (λ n. drop n text) (sym onward),
      elim c.if-count-next.branch [
        | then-count-next+in_ok-append_field w ↦ rw (w.changed-is, w.next-changed-then-count-next.ensures) (next-is fields
            (c.number_after-count.result + 1))
        | else-count-next w ↦ subst (IsNext fields (c.number_after-count.result + 1)) (sym w.changed-is)
            (next-later fields c.fields.count _ _ counted (Some c.in-Some.next) next)
      ],
      past-next line.setup.now.rules.now fields line.setup.now.parser line.setup.now.to.now line.number text c.args.text.now
          c.if-count-next.text c.if-count-next.kept end c.number_after-count.result low split.0 past
          (split.3 (omega (arith, below, inside))) (length text - length left)
          onward (omega (arith, below, inside)) byte _ _ c.separate-kept.ensures.separated,
    )
