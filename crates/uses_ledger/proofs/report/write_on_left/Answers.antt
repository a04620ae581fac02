use Rattle.std.proofs.Common.{◌≡◌, ◌-◌, replicate, refl, subst}
use Rattle.std.specs.Io.KnownBytes.{Appends}
use Rattle.std.specs.Prelude.{OnErr}
use Rattle.num_format.specs.Writing.{StopsWithin}
use Rattle.num_format_writers.proofs.WritingLemmas.{StopsWithin_suffix}
use Rattle.uses_ledger.specs.Report.{on_left, spaces, width}
use Rattle.uses_ledger.proofs.ReportLemmas.{on_same_error}
use Rattle.uses_ledger.proofs.report.write_on_left.Goals as goal

pub returns-clause-prefix : goal.returns-clause-prefix
returns-clause-prefix g c =
    let text = c.args.text.now in
    let filled = spaces c.args.column text in
    let old = g.W.Write.contents c.args.w.now in
    let named = g.W.Write.contents c.write_whole.new.w in
    let new = g.W.Write.contents c.write_spaces.new.w in
    let same : c.as_bytes.result.now ≡ text = cc in
    let count : c.saturating_sub.result ≡ c.args.column - width text = cc in
    let first : Appends old named text = subst (Appends old named) same c.in_ok-write_whole.ensures.whole in
    let r = c.write_spaces.result in
    let stops : OnErr r (StopsWithin named new filled) =
    subst (λ n. OnErr r (StopsWithin named new (replicate n 32))) count c.write_spaces.ensures.prefix in
    on_same_error r r (StopsWithin named new filled) (StopsWithin old new (on_left c.args.column text)) refl
    (StopsWithin_suffix old named new text filled first) stops
