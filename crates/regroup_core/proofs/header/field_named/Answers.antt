use Rattle.regroup_core.proofs.Common.{ap, arith, length, parts_of, take, ◌+◌, ◌<◌, ◌∙◌}
use Rattle.regroup_core.specs.Header.{also, numbers_named, only_one}
use Rattle.regroup_core.proofs.HeaderLemmas.{sought-last, sought-next}
use Rattle.regroup_core.proofs.PartLemmas.{step}
use Rattle.regroup_core.proofs.header.field_named.Goals as goal

pub returns-then-end-fields : goal.returns-then-end-fields
returns-then-end-fields c =
    let sought = c.parts.invariant in
    let next = step c.args.separation (take c.fields_len.result c.args.header.now) c.parts.start c.part_len.result sought.within
    c.part_len.ensures.within c.part_len.ensures.end in
    sought-last c.args.separation c.args.name.now (take c.fields_len.result c.args.header.now) sought next c.number_after-count.result
    c.number_after-count.ensures.number c.also-found.result
    (c.also-found.ensures ∙ ap (λ is. also c.parts.found is c.number_after-count.result) c.is_named.ensures) c.if-end-fields.true
    ∙ ap (λ n. only_one (numbers_named c.args.separation c.args.name.now 0 (parts_of c.args.separation (take n c.args.header.now))))
    c.fields_len.ensures.value

pub parts-preserved : goal.parts-preserved
parts-preserved c =
    let sought = c.parts.invariant in
    let next = step c.args.separation (take c.fields_len.result c.args.header.now) c.parts.start c.part_len.result sought.within
    c.part_len.ensures.within c.part_len.ensures.end in
    let inside = next.within in
    let other = c.if-end-fields.false in
    let most = c.number_after-count.ensures.most in
    let counted = sought.counted in
    let low : c.parts.start + c.part_len.result < length (take c.fields_len.result c.args.header.now) = omega (arith, inside, other) in
    sought-next c.args.separation c.args.name.now (take c.fields_len.result c.args.header.now) sought next c.number_after-count.result
    c.number_after-count.ensures.number c.also-found.result
    (c.also-found.ensures ∙ ap (λ is. also c.parts.found is c.number_after-count.result) c.is_named.ensures) low
    (omega (arith, most, counted))
