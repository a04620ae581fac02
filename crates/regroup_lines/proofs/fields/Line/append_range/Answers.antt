use Rattle.regroup_lines.proofs.Common.{[], ap, err_from_is_err_and, is_counted, sym, ◌&&◌, ◌∙◌, ◌≡◌}
use Rattle.regroup_lines.proofs.ChosenLemmas.{asked-both, asked-not, begun-done, begun-fault, begun-next, begun-none, numbered-past}
use Rattle.regroup_lines.specs.Cursor.{left, left_in}
use Rattle.regroup_lines.specs.Places.{is_in, numbered_in}
use Rattle.regroup_lines.proofs.fields.Line.append_range.Goals as goal
use Rattle.regroup_lines.proofs.fields.Line.append_range.Goals.{else-contains, else-fields-test, then-contains, then-fields-test+in_default}

pub fields-init : goal.fields-init
fields-init g c =
    let line = c.args.self.now in
    let setup = line.setup.now in
    begun-none setup.rules.now line.fields.now setup.parser setup.to.now line.number c.args.range.now c.args.cursor.now c.args.was_begun
    c.args.text.now

pub returns-in_err-append_if-clause-added : goal.returns-in_err-append_if-clause-added
returns-in_err-append_if-clause-added g c =
    let line = c.args.self.now in
    let setup = line.setup.now in
    let next = c.next.new.self in
    let is : c.if-contains.is_asked ≡ (is_in c.args.range.now next.count && is_counted line.fields.now.blanks c.in-Some.field.now) =
    elim c.if-contains.branch [
      | then-contains w ↦
          asked-both _ _ _ _ _ c.contains.ensures w.if-contains.true w.is_asked-is w.count-is_asked.ensures
      | else-contains w ↦ asked-not _ _ _ _ c.contains.ensures w.if-contains.false w.is_asked-is
    ] in
    let p = err_from_is_err_and c.from_residual.result c.from_residual.ensures.1 in
    rw (p.1, p.2) (begun-fault setup.rules.now line.fields.now setup.parser setup.to.now line.number c.args.range.now c.args.cursor.now
    c.args.was_begun c.args.text.now c.fields.is_begun c.fields.cursor c.fields.text c.fields.invariant c.in-Some.field next
    c.in-Some.ensures c.if-contains.is_asked is _ _ c.in_err-append_if.ensures)

pub fields-preserved : goal.fields-preserved
fields-preserved g c =
    let line = c.args.self.now in
    let setup = line.setup.now in
    let next = c.next.new.self in
    let is : c.if-contains.is_asked ≡ (is_in c.args.range.now next.count && is_counted line.fields.now.blanks c.in-Some.field.now) =
    elim c.if-contains.branch [
      | then-contains w ↦
          asked-both _ _ _ _ _ c.contains.ensures w.if-contains.true w.is_asked-is w.count-is_asked.ensures
      | else-contains w ↦ asked-not _ _ _ _ c.contains.ensures w.if-contains.false w.is_asked-is
    ] in
    begun-next setup.rules.now line.fields.now setup.parser setup.to.now line.number c.args.range.now c.args.cursor.now
    c.args.was_begun c.args.text.now c.fields.is_begun c.fields.cursor c.fields.text c.fields.invariant c.in-Some.field next
    c.in-Some.ensures c.if-contains.is_asked is _ c.in_ok-append_if.ensures

pub returns-clause-added : goal.returns-clause-added
returns-clause-added g c =
    let line = c.args.self.now in
    let setup = line.setup.now in
    let range = c.args.range.now in
    let cursor = c.fields.cursor in
    let none : left_in range line.fields.now cursor ≡ [] = elim c.fields-test.branch [
      | else-fields-test w ↦ numbered-past range line.fields.now.blanks cursor.count (left line.fields.now cursor)
          (sym c.reaches.ensures ∙ w.fields-test.false)
      | then-fields-test+in_default w ↦ ap (numbered_in range line.fields.now.blanks cursor.count) w.in_default.ensures.0
    ] in
    (begun-done setup.rules.now line.fields.now setup.parser setup.to.now line.number range c.args.cursor.now c.args.was_begun
    c.args.text.now c.fields.is_begun cursor c.fields.text c.fields.invariant none).0

pub returns-clause-begun : goal.returns-clause-begun
returns-clause-begun g c =
    let line = c.args.self.now in
    let setup = line.setup.now in
    let range = c.args.range.now in
    let cursor = c.fields.cursor in
    let none : left_in range line.fields.now cursor ≡ [] = elim c.fields-test.branch [
      | else-fields-test w ↦ numbered-past range line.fields.now.blanks cursor.count (left line.fields.now cursor)
          (sym c.reaches.ensures ∙ w.fields-test.false)
      | then-fields-test+in_default w ↦ ap (numbered_in range line.fields.now.blanks cursor.count) w.in_default.ensures.0
    ] in
    (begun-done setup.rules.now line.fields.now setup.parser setup.to.now line.number range c.args.cursor.now c.args.was_begun
    c.args.text.now c.fields.is_begun cursor c.fields.text c.fields.invariant none).1
