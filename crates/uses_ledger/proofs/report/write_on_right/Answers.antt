use Rattle.std.proofs.Common.{◌≡◌, ◌-◌, replicate, subst}
use Rattle.std.proofs.lemmas.Result.{err_from_is_err_and}
use Rattle.std.specs.Io.KnownBytes.{Appends}
use Rattle.num_format.specs.Writing.{StopsWithin}
use Rattle.num_format_writers.proofs.WritingLemmas.{StopsWithin_prefix, StopsWithin_suffix}
use Rattle.uses_ledger.specs.Report.{spaces, width}
use Rattle.uses_ledger.proofs.report.write_on_right.Goals as goal

pub returns-in_err-write_spaces-clause-prefix : goal.returns-in_err-write_spaces-clause-prefix
returns-in_err-write_spaces-clause-prefix g c =
    let text = c.args.text.now in
    let old = g.W.Write.contents c.args.w.now in
    let new = g.W.Write.contents c.write_spaces.new.w in
    let count : c.saturating_sub.result ≡ c.args.column - width text = cc in
    let stops : StopsWithin old new (spaces c.args.column text) =
    subst (λ n. StopsWithin old new (replicate n 32)) count c.in_err-write_spaces.ensures.prefix in
    let p = err_from_is_err_and c.from_residual.result c.from_residual.ensures.1 in
    rw p.1 (StopsWithin_prefix old new (spaces c.args.column text) text stops)

pub returns-in_err-write_whole-clause-prefix : goal.returns-in_err-write_whole-clause-prefix
returns-in_err-write_whole-clause-prefix g c =
    let text = c.args.text.now in
    let filled = spaces c.args.column text in
    let old = g.W.Write.contents c.args.w.now in
    let spaced = g.W.Write.contents c.write_spaces.new.w in
    let new = g.W.Write.contents c.write_whole.new.w in
    let same : c.as_bytes.result.now ≡ text = cc in
    let count : c.saturating_sub.result ≡ c.args.column - width text = cc in
    let first : Appends old spaced filled = subst (λ n. Appends old spaced (replicate n 32)) count c.in_ok-write_spaces.ensures.whole in
    let stops : StopsWithin spaced new text = subst (StopsWithin spaced new) same c.in_err-write_whole.ensures.prefix in
    let p = err_from_is_err_and c.from_residual-in_err-write_whole.result c.from_residual-in_err-write_whole.ensures.1 in
    rw p.1 (StopsWithin_suffix old spaced new filled text first stops)
