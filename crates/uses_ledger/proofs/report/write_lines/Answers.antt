use Rattle.std.proofs.Common.{get_or, refl, subst, rules}
use Rattle.std.proofs.lemmas.Result.{err_from_is_err_and}
use Rattle.std.specs.Prelude.{codes}
use Rattle.num_format.specs.Writing.{StopsWithin}
use Rattle.uses_ledger.specs.Report.{entry_line, line_of, lines_of}
use Rattle.uses_ledger.proofs.ReportLemmas.{on_same_error, stops_after_lines, stops_in_line}
use Rattle.uses_ledger.proofs.report.write_lines.Goals as goal

pub returns-in_err-write_line-clause-prefix : goal.returns-in_err-write_line-clause-prefix
returns-in_err-write_line-clause-prefix g c =
    let f = g.F.Format.answers c.args.format.now in
    let es = c.args.entries.now in
    let i = c.loop-entry.entry-index in
    let e = c.entry-item.result in
    let line = entry_line f c.args.widths in
    let last = line_of f c.args.widths (codes "total") c.args.sum.now in
    let old = g.W.Write.contents c.args.w.now in
    let before = g.W.Write.contents c.loop-entry.w in
    let new = g.W.Write.contents c.write_line.new.w in
    let stops : StopsWithin before new (line (get_or es i e)) =
    subst (λ x. StopsWithin before new (line x)) c.entry-item.is c.in_err-write_line.ensures.prefix in
    let p = err_from_is_err_and c.from_residual.result c.from_residual.ensures.1 in
    rw p.1 (stops_in_line line es i e (search rules) last old before new c.loop-entry.invariant stops)

pub returns-clause-prefix : goal.returns-clause-prefix
returns-clause-prefix g c =
    let f = g.F.Format.answers c.args.format.now in
    let es = c.args.entries.now in
    let line = entry_line f c.args.widths in
    let last = line_of f c.args.widths (codes "total") c.args.sum.now in
    let old = g.W.Write.contents c.args.w.now in
    let before = g.W.Write.contents c.loop-entry.w in
    let new = g.W.Write.contents c.write_line-2.new.w in
    let r = c.write_line-2.result in
    on_same_error r r (StopsWithin before new last) (StopsWithin old new (lines_of f c.args.widths es c.args.sum.now)) refl
    (stops_after_lines line es c.loop-entry.entry-index last old before new (search rules) c.loop-entry.invariant)
    c.write_line-2.ensures.prefix
