use Rattle.regroup_lines.proofs.Common.{ap, arith, drop, false, is_some, length, length-drop, result_map_both, rules, slice_range, sym}
use Rattle.regroup_lines.proofs.Common.{take, take_rest, true}
use Rattle.regroup_lines.proofs.Common.{◌+◌, ◌-◌, ◌<◌, ◌≤◌, ◌∙◌, ◌≡◌}
use Rattle.regroup_lines.proofs.HeaderLemmas.{named-again, named-end, named-first, named-last, named-next, named-other, next, then_after}
use Rattle.regroup_lines.specs.Header.{is_named, misnamed_of, number_named}
use Rattle.regroup_lines.proofs.header.field_named.Goals as goal
use Rattle.regroup_lines.proofs.header.field_named.Goals.{then-is_named+else-is_some, else-is_named}

pub returns-then-is_some : goal.returns-then-is_some
returns-then-is_some c =
    let cs = c.args.fields.now in
    let name = c.args.name.now in
    let count = c.fields.count in
    let rest = c.fields.rest.now in
    let same = c.quotes-quotes.ensures in
    let end = c.find_end-len.ensures in
    let counted = c.number_after-count.ensures.number in
    let is : is_named cs name (take c.find_end-len.result.0 rest) ≡ true =
    rw c.as_bytes.ensures.value at (sym c.is_named.ensures ∙ c.if-is_named.true) in
    let some : is_some c.fields.found ≡ true = search rules in
    sym (c.fields.invariant.1 ∙ named-again cs name count rest _ same _ _ (end.searched, end.found) _ counted c.fields.found is some)

pub returns-then-len-rest : goal.returns-then-len-rest
returns-then-len-rest c =
    let cs = c.args.fields.now in
    let name = c.args.name.now in
    let count = c.fields.count in
    let rest = c.fields.rest.now in
    let same = c.quotes-quotes.ensures in
    let end = c.find_end-len.ensures in
    let counted = c.number_after-count.ensures.number in
    let after : number_named cs c.args.header.now name
    ≡ then_after cs name count rest _ same _ _ (end.searched, end.found) c.number_after-count.result c.if-is_named.found =
    elim c.if-is_named.branch [
      | then-is_named+else-is_some w ↦
          let is = rw c.as_bytes.ensures.value at (sym c.is_named.ensures ∙ w.if-is_named.true) in
          let none : is_some c.fields.found ≡ false = search rules in
          rw w.found-is (c.fields.invariant.1 ∙ named-first cs name count rest _ same _ _ (end.searched, end.found) _ counted
          c.fields.found is none)
      | else-is_named w ↦
          let other = rw c.as_bytes.ensures.value at (sym c.is_named.ensures ∙ w.if-is_named.false) in
          rw w.found-is (c.fields.invariant.1 ∙ named-other cs name count rest _ same _ _ (end.searched, end.found) _ counted
          c.fields.found other)
    ] in
    ap (result_map_both (λ number. number) misnamed_of) c.ok_or.ensures.value ∙ named-end _ c.if-is_named.found
    ∙ sym (after ∙ named-last cs name count rest _ same _ _ (end.searched, end.found) _ counted c.if-is_named.found c.if-len-rest.true)

pub fields-preserved : goal.fields-preserved
fields-preserved c =
    let cs = c.args.fields.now in
    let name = c.args.name.now in
    let count = c.fields.count in
    let rest = c.fields.rest.now in
    let same = c.quotes-quotes.ensures in
    let end = c.find_end-len.ensures in
    let counted = c.number_after-count.ensures.number in
    let len = c.find_end-len.result.0 in
    let within : len ≤ length rest = (next cs name count rest _ same _ _ (end.searched, end.found)).4 in
    let more : len < length rest = omega (arith, within, c.if-len-rest.false) in
    let is : slice_range rest (len + 1) (length rest) ≡ drop (len + 1) rest = take_rest rest (len + 1) in
    let size : length (slice_range rest (len + 1) (length rest)) ≡ length rest - (len + 1) = ap length is ∙ length-drop (len + 1) rest in
    let after : number_named cs c.args.header.now name
    ≡ then_after cs name count rest _ same _ _ (end.searched, end.found) c.number_after-count.result c.if-is_named.found =
    elim c.if-is_named.branch [
      | then-is_named+else-is_some w ↦
          let is = rw c.as_bytes.ensures.value at (sym c.is_named.ensures ∙ w.if-is_named.true) in
          let none : is_some c.fields.found ≡ false = search rules in
          rw w.found-is (c.fields.invariant.1 ∙ named-first cs name count rest _ same _ _ (end.searched, end.found) _ counted
          c.fields.found is none)
      | else-is_named w ↦
          let other = rw c.as_bytes.ensures.value at (sym c.is_named.ensures ∙ w.if-is_named.false) in
          rw w.found-is (c.fields.invariant.1 ∙ named-other cs name count rest _ same _ _ (end.searched, end.found) _ counted
          c.fields.found other)
    ] in (
      omega (arith, size, more, c.fields.invariant.0, c.number_after-count.ensures.most),
      after ∙ named-next cs name count rest _ same _ _ (end.searched, end.found) _ counted c.if-is_named.found _ is more,
    )
