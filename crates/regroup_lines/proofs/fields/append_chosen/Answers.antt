use Rattle.regroup_lines.proofs.Common.{arith, drop, drop_all, drop_more, err_from_is_err_and, length, subst, ◌+◌, ◌<◌}
use Rattle.regroup_lines.proofs.ChosenLemmas.{Listed, here-cursor, here-start, listed-all, listed-fault, listed-next, listed-none}
use Rattle.regroup_lines.proofs.fields.append_chosen.Goals as goal
use Rattle.regroup_lines.proofs.fields.append_chosen.Goals.{else-range-cursor, then-range-cursor}

pub loop-range-init : goal.loop-range-init
loop-range-init g c =
    listed-none c.args.setup.now.rules.now c.args.fields.now c.args.setup.now.parser c.args.setup.now.to.now c.args.number c.args.list.now
    c.args.line.now c.new-start.result c.args.text.now

pub returns-in_err-is_begun : goal.returns-in_err-is_begun
returns-in_err-is_begun g c =
    let setup = c.args.setup.now in
    let cs = c.args.fields.now in
    let list = c.args.list.now in
    let line = c.args.line.now in
    let start = c.new-start.result in
    let begun = c.loop-range.is_begun in
    let cursor = c.loop-range.cursor in
    let i = c.loop-range.range-index in
    let here = c.if-range-cursor.cursor in
    let lt : i < length list = omega arith in
    let so_far = subst (λ l. Listed setup.rules.now cs setup.parser setup.to.now c.args.number list line start c.args.text.now begun l
    cursor c.loop-range.text) (drop_more list i _ lt) c.loop-range.invariant in
    let p = err_from_is_err_and c.from_residual.result c.from_residual.ensures.1 in
    rw (p.1, p.2) (elim c.if-range-cursor.branch [
      | then-range-cursor w ↦
          listed-fault setup.rules.now cs setup.parser setup.to.now c.args.number list line start c.args.text.now
          begun _ (drop (i + 1) list) cursor c.loop-range.text so_far here
          (here-start setup.rules.now cs setup.parser setup.to.now c.args.number list line start c.args.text.now
          (c.new-start.ensures.left cs) c.new-start.ensures.count _ here w.cursor-is) _ _ c.in_err-is_begun.ensures.added
      | else-range-cursor w ↦
          listed-fault setup.rules.now cs setup.parser setup.to.now c.args.number list line start c.args.text.now
          begun _ (drop (i + 1) list) cursor c.loop-range.text so_far here
          (here-cursor setup.rules.now cs setup.parser setup.to.now c.args.number list line start c.args.text.now
          (c.new-start.ensures.left cs) c.new-start.ensures.count _ cursor here c.loop-range.invariant.3
          w.if-range-cursor.false w.cursor-is) _ _ c.in_err-is_begun.ensures.added
    ])

pub loop-range-preserved : goal.loop-range-preserved
loop-range-preserved g c =
    let setup = c.args.setup.now in
    let cs = c.args.fields.now in
    let list = c.args.list.now in
    let line = c.args.line.now in
    let start = c.new-start.result in
    let begun = c.loop-range.is_begun in
    let cursor = c.loop-range.cursor in
    let i = c.loop-range.range-index in
    let here = c.if-range-cursor.cursor in
    let lt : i < length list = omega arith in
    let so_far = subst (λ l. Listed setup.rules.now cs setup.parser setup.to.now c.args.number list line start c.args.text.now begun l
    cursor c.loop-range.text) (drop_more list i _ lt) c.loop-range.invariant in
    elim c.if-range-cursor.branch [
      | then-range-cursor w ↦
          listed-next setup.rules.now cs setup.parser setup.to.now c.args.number list line start c.args.text.now
          begun _ (drop (i + 1) list) cursor c.loop-range.text so_far here
          (here-start setup.rules.now cs setup.parser setup.to.now c.args.number list line start c.args.text.now
          (c.new-start.ensures.left cs) c.new-start.ensures.count _ here w.cursor-is) _ _ _ c.in_ok-is_begun.ensures.added
          c.in_ok-is_begun.ensures.begun c.in_ok-is_begun.ensures.passed
      | else-range-cursor w ↦
          listed-next setup.rules.now cs setup.parser setup.to.now c.args.number list line start c.args.text.now
          begun _ (drop (i + 1) list) cursor c.loop-range.text so_far here
          (here-cursor setup.rules.now cs setup.parser setup.to.now c.args.number list line start c.args.text.now
          (c.new-start.ensures.left cs) c.new-start.ensures.count _ cursor here c.loop-range.invariant.3 w.if-range-cursor.false
          w.cursor-is) _ _ _ c.in_ok-is_begun.ensures.added
          c.in_ok-is_begun.ensures.begun c.in_ok-is_begun.ensures.passed
    ]

pub returns : goal.returns
returns g c =
    let setup = c.args.setup.now in
    let cs = c.args.fields.now in
    let list = c.args.list.now in
    let line = c.args.line.now in
    let start = c.new-start.result in
    let so_far = subst (λ l. Listed setup.rules.now cs setup.parser setup.to.now c.args.number list line start c.args.text.now
    c.loop-range.is_begun l c.loop-range.cursor c.loop-range.text) (drop_all c.loop-range.range-index list (omega arith))
    c.loop-range.invariant in
    listed-all setup.rules.now cs setup.parser setup.to.now c.args.number list line start c.args.text.now
    (c.new-start.ensures.left cs) c.new-start.ensures.count _ _ _ so_far _ c.count_all.ensures _ _ c.end.ensures
