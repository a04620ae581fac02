use Rattle.std.proofs.Common.{subst}
use Rattle.std.specs.List.{flat_map}
use Rattle.std.specs.Prelude.{OnErr}
use Rattle.num_format.specs.Writing.{StopsWithin}
use Rattle.num_format_writers.proofs.WritingLemmas.{OnErr-always}
use Rattle.uses_ledger.specs.Report.{entry_line, lines_of, report_of, widths_of}
use Rattle.uses_ledger.proofs.ReportLemmas.{on_same_error, stops_before}
use Rattle.uses_ledger.proofs.report.write_report.Goals as goal

pub returns-in_err-sum-clause-prefix : goal.returns-in_err-sum-clause-prefix
returns-in_err-sum-clause-prefix g c =
    let f = g.F.Format.answers c.args.format.now in
    let es = c.args.entries.now in
    let lines = flat_map (entry_line f (widths_of f es)) es in
    OnErr-always _ _ (stops_before lines _ _ (g.W.Write.contents c.args.w.now))

pub returns-clause-prefix : goal.returns-clause-prefix
returns-clause-prefix g c =
    let f = g.F.Format.answers c.args.format.now in
    let es = c.args.entries.now in
    let stops = StopsWithin (g.W.Write.contents c.args.w.now) (g.W.Write.contents c.write_lines.new.w) in
    let r = c.write_lines.result in
    let prefix : OnErr r (stops (lines_of f (widths_of f es) es c.in_ok-sum.sum)) =
    subst (λ widths. OnErr r (stops (lines_of f widths es c.in_ok-sum.sum))) c.of-widths.ensures c.write_lines.ensures.prefix in
    let all : OnErr r (stops (report_of f es)) =
    subst (λ sum. OnErr r (stops (lines_of f (widths_of f es) es sum))) c.in_ok-sum.ensures.sum prefix in
    on_same_error r c.map_err.result (stops (report_of f es)) (stops (report_of f es)) c.map_err.ensures.variant (λ holds. holds) all
