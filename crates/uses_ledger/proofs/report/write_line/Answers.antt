use Rattle.std.proofs.Common.{◌≡◌, ◌++◌, subst}
use Rattle.std.proofs.lemmas.Result.{err_from_is_err_and}
use Rattle.std.specs.Io.KnownBytes.{Appends}
use Rattle.std.specs.Prelude.{codes}
use Rattle.num_format.specs.Writing.{StopsWithin}
use Rattle.num_format_writers.proofs.WritingLemmas.{StopsWithin_prefix, StopsWithin_suffix}
use Rattle.num_format_decimal.specs.Text.{decimal_text}
use Rattle.uses_ledger.specs.Report.{on_left, on_right}
use Rattle.uses_ledger.proofs.report.write_line.Goals as goal

pub returns-in_err-write_on_left-clause-prefix : goal.returns-in_err-write_on_left-clause-prefix
returns-in_err-write_on_left-clause-prefix g c =
    let left = on_left c.args.widths.name c.args.name.now in
    let amount = decimal_text (g.F.Format.answers c.args.format.now) c.args.amount.now in
    let right = on_right c.args.widths.amount amount in
    let old = g.W.Write.contents c.args.w.now in
    let named = g.W.Write.contents c.write_on_left.new.w in
    let p = err_from_is_err_and c.from_residual.result c.from_residual.ensures.1 in
    rw p.1 (StopsWithin_prefix old named left (codes "  " ++ (right ++ codes "\n")) c.in_err-write_on_left.ensures.prefix)

pub returns-in_err-write_whole-clause-prefix : goal.returns-in_err-write_whole-clause-prefix
returns-in_err-write_whole-clause-prefix g c =
    let left = on_left c.args.widths.name c.args.name.now in
    let amount = decimal_text (g.F.Format.answers c.args.format.now) c.args.amount.now in
    let right = on_right c.args.widths.amount amount in
    let old = g.W.Write.contents c.args.w.now in
    let named = g.W.Write.contents c.write_on_left.new.w in
    let spaced = g.W.Write.contents c.write_whole.new.w in
    let p = err_from_is_err_and c.from_residual-in_err-write_whole.result c.from_residual-in_err-write_whole.ensures.1 in
    rw p.1 (StopsWithin_suffix old named spaced left (codes "  " ++ (right ++ codes "\n")) c.in_ok-write_on_left.ensures.whole
    (StopsWithin_prefix named spaced (codes "  ") (right ++ codes "\n") c.in_err-write_whole.ensures.prefix))

pub returns-in_err-write_on_right-clause-prefix : goal.returns-in_err-write_on_right-clause-prefix
returns-in_err-write_on_right-clause-prefix g c =
    let left = on_left c.args.widths.name c.args.name.now in
    let amount = decimal_text (g.F.Format.answers c.args.format.now) c.args.amount.now in
    let right = on_right c.args.widths.amount amount in
    let old = g.W.Write.contents c.args.w.now in
    let named = g.W.Write.contents c.write_on_left.new.w in
    let spaced = g.W.Write.contents c.write_whole.new.w in
    let counted = g.W.Write.contents c.write_on_right.new.w in
    let same : c.as_str.result.now ≡ amount = cc in
    let stops : StopsWithin spaced counted right =
    subst (λ text. StopsWithin spaced counted (on_right c.args.widths.amount text)) same c.in_err-write_on_right.ensures.prefix in
    let p = err_from_is_err_and c.from_residual-in_err-write_on_right.result c.from_residual-in_err-write_on_right.ensures.1 in
    rw p.1 (StopsWithin_suffix old named counted left (codes "  " ++ (right ++ codes "\n")) c.in_ok-write_on_left.ensures.whole
    (StopsWithin_suffix named spaced counted (codes "  ") (right ++ codes "\n") c.in_ok-write_whole.ensures.whole
    (StopsWithin_prefix spaced counted right (codes "\n") stops)))

pub returns-in_err-write_whole-2-clause-prefix : goal.returns-in_err-write_whole-2-clause-prefix
returns-in_err-write_whole-2-clause-prefix g c =
    let left = on_left c.args.widths.name c.args.name.now in
    let amount = decimal_text (g.F.Format.answers c.args.format.now) c.args.amount.now in
    let right = on_right c.args.widths.amount amount in
    let old = g.W.Write.contents c.args.w.now in
    let named = g.W.Write.contents c.write_on_left.new.w in
    let spaced = g.W.Write.contents c.write_whole.new.w in
    let counted = g.W.Write.contents c.write_on_right.new.w in
    let last = g.W.Write.contents c.write_whole-2.new.w in
    let same : c.as_str.result.now ≡ amount = cc in
    let number : Appends spaced counted right =
    subst (λ text. Appends spaced counted (on_right c.args.widths.amount text)) same c.in_ok-write_on_right.ensures.whole in
    let p = err_from_is_err_and c.from_residual-in_err-write_whole-2.result c.from_residual-in_err-write_whole-2.ensures.1 in
    rw p.1 (StopsWithin_suffix old named last left (codes "  " ++ (right ++ codes "\n")) c.in_ok-write_on_left.ensures.whole
    (StopsWithin_suffix named spaced last (codes "  ") (right ++ codes "\n") c.in_ok-write_whole.ensures.whole
    (StopsWithin_suffix spaced counted last right (codes "\n") number c.in_err-write_whole-2.ensures.prefix)))
