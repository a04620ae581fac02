use Rattle.regroup_core.proofs.Common.{ap, append_assoc, arith, length, length-take-le, slice_range, subst, sym, take, take_rest}
use Rattle.regroup_core.proofs.Common.{◌++◌, ◌+◌, ◌<◌, ◌≡◌, ◌≤◌, ◌∙◌}
use Rattle.regroup_core.specs.Adding.{Adds}
use Rattle.regroup_core.specs.Lines.{enough}
use Rattle.regroup_core.proofs.AddLemmas.{adds-after, adds-cause}
use Rattle.regroup_core.proofs.LineLemmas.{Past, begun-done, begun-none, line-cause, line-done, line-last, part-cause, past-converted}
use Rattle.regroup_core.proofs.LineLemmas.{past-kept, past-last, past-next}
use Rattle.regroup_core.proofs.PartLemmas.{step}
use Rattle.std.proofs.lemmas.Result.{err_from_is_err_and}
use Rattle.regroup_core.proofs.line.append_record.Goals as goal
use Rattle.regroup_core.proofs.line.append_record.Goals.{then-converts+in_ok-append_field, else-converts}

pub parts-init : goal.parts-init
parts-init g c =
    begun-none c.args.plan.now (g.C.Codec.converted c.args.codec.now) (take c.fields_len.result c.args.line.now) c.args.out.now.items

pub returns-in_err-append_field : goal.returns-in_err-append_field
returns-in_err-append_field g c =
    let begun = c.parts.invariant in
    let next = step c.args.plan.now.dialect.separation (take c.fields_len.result c.args.line.now) c.parts.start
    c.part_len.result begun.within c.part_len.ensures.within c.part_len.ensures.end in
    let p = err_from_is_err_and c.from_residual.result c.from_residual.ensures.1 in
    rw (p.1, p.2) (adds-cause _ _ _ c.parts.out.items _ _ begun.added
    (λ cause is. line-cause c.args.plan.now (g.C.Codec.converted c.args.codec.now) c.args.line.now c.fields_len.result
    c.fields_len.ensures.value cause
    (part-cause c.args.plan.now (g.C.Codec.converted c.args.codec.now) (take c.fields_len.result c.args.line.now) begun
    next c.number_after-count.result c.number_after-count.ensures.number
    (sym c.converts.ensures ∙ c.if-converts.true) cause is)) c.in_err-append_field.field-0.0 c.in_err-append_field.ensures)

pub returns-then-end-fields : goal.returns-then-end-fields
returns-then-end-fields g c =
    let begun = c.parts.invariant in
    let next = step c.args.plan.now.dialect.separation (take c.fields_len.result c.args.line.now) c.parts.start
    c.part_len.result begun.within c.part_len.ensures.within c.part_len.ensures.end in
    let past : Past c.args.plan.now (g.C.Codec.converted c.args.codec.now) (take c.fields_len.result c.args.line.now) c.args.out.now.items
    c.if-converts.kept (c.parts.start + c.part_len.result) c.number_after-count.result next.rest c.if-converts.out.items =
    elim c.if-converts.branch [
      | then-converts+in_ok-append_field w ↦ rw (w.out-is, w.kept-is)
          (past-converted c.args.plan.now (g.C.Codec.converted c.args.codec.now) (take c.fields_len.result c.args.line.now) begun
          next c.number_after-count.result c.number_after-count.ensures.number (sym c.converts.ensures ∙ w.if-converts.true)
          w.append_field.new.out.items
          w.in_ok-append_field.ensures)
      | else-converts w ↦ rw (w.out-is, w.kept-is)
          (past-kept c.args.plan.now (g.C.Codec.converted c.args.codec.now) (take c.fields_len.result c.args.line.now) begun
          next c.number_after-count.result c.number_after-count.ensures.number (sym c.converts.ensures ∙ w.if-converts.false))
    ] in
    let within = c.fields_len.ensures.within in
    let ordered = past.ordered in
    let last : c.parts.start + c.part_len.result ≡ length (take c.fields_len.result c.args.line.now) = c.if-end-fields.true in
    let low : c.if-converts.kept ≤ c.fields_len.result =
    omega (arith, ordered, last, length-take-le c.fields_len.result c.args.line.now within) in
    rw (line-last c.args.plan.now (g.C.Codec.converted c.args.codec.now) c.args.line.now c.fields_len.result c.fields_len.ensures.value
    c.if-converts.kept c.number_after-count.result past.front low within
    (past-last c.args.plan.now (g.C.Codec.converted c.args.codec.now) (take c.fields_len.result c.args.line.now) past
    (next.last last) last))
    (adds-after _ _ c.if-converts.out.items _ past.front _ past.added
    (subst (λ l. Adds (enough c.args.plan.now c.number_after-count.result l) c.if-converts.out.items c.append_last.new.out.items
    c.append_last.result) (take_rest c.args.line.now c.if-converts.kept) c.append_last.ensures))

pub parts-preserved : goal.parts-preserved
parts-preserved g c =
    let begun = c.parts.invariant in
    let next = step c.args.plan.now.dialect.separation (take c.fields_len.result c.args.line.now) c.parts.start
    c.part_len.result begun.within c.part_len.ensures.within c.part_len.ensures.end in
    let past : Past c.args.plan.now (g.C.Codec.converted c.args.codec.now) (take c.fields_len.result c.args.line.now) c.args.out.now.items
    c.if-converts.kept (c.parts.start + c.part_len.result) c.number_after-count.result next.rest c.if-converts.out.items =
    elim c.if-converts.branch [
      | then-converts+in_ok-append_field w ↦ rw (w.out-is, w.kept-is)
          (past-converted c.args.plan.now (g.C.Codec.converted c.args.codec.now) (take c.fields_len.result c.args.line.now) begun
          next c.number_after-count.result c.number_after-count.ensures.number (sym c.converts.ensures ∙ w.if-converts.true)
          w.append_field.new.out.items
          w.in_ok-append_field.ensures)
      | else-converts w ↦ rw (w.out-is, w.kept-is)
          (past-kept c.args.plan.now (g.C.Codec.converted c.args.codec.now) (take c.fields_len.result c.args.line.now) begun
          next c.number_after-count.result c.number_after-count.ensures.number (sym c.converts.ensures ∙ w.if-converts.false))
    ] in
    let within = next.within in
    let most = c.number_after-count.ensures.most in
    let counted = begun.counted in
    let other = c.if-end-fields.false in
    let low : c.parts.start + c.part_len.result < length (take c.fields_len.result c.args.line.now) = omega (arith, within, other) in
    past-next c.args.plan.now (g.C.Codec.converted c.args.codec.now) (take c.fields_len.result c.args.line.now) past low (next.next low)
    (omega (arith, most, counted))

pub returns : goal.returns
returns g c =
    let begun = c.parts.invariant in
    let within = c.fields_len.ensures.within in
    let ordered = begun.ordered in
    let inside = begun.within in
    let low : c.parts.kept ≤ c.fields_len.result =
    omega (arith, ordered, inside, length-take-le c.fields_len.result c.args.line.now within) in
    rw (line-done c.args.plan.now (g.C.Codec.converted c.args.codec.now) c.args.line.now c.fields_len.result c.fields_len.ensures.value
    c.parts.kept begun.front low within
    (begun-done c.args.plan.now (g.C.Codec.converted c.args.codec.now) (take c.fields_len.result c.args.line.now) begun
    (sym c.chooses_from.ensures ∙ c.parts-test.false)))
    (c.in_ok-extend_from_slice.ensures.items
    ∙ ap (λ l. l ++ slice_range c.args.line.now c.parts.kept (length c.args.line.now)) begun.added
    ∙ append_assoc c.args.out.now.items begun.front (slice_range c.args.line.now c.parts.kept (length c.args.line.now))
    ∙ ap (λ l. c.args.out.now.items ++ (begun.front ++ l)) (take_rest c.args.line.now c.parts.kept))
