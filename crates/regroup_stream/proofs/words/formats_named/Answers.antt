use Rattle.std.proofs.lemmas.Bool.{both_ways}
use Rattle.std.proofs.lemmas.Result.{err_from_is_err_and}
use Rattle.std.proofs.Common.{subst, sym}
use Rattle.num_format_decimal.specs.Marks.{MarksDecimals}
use Rattle.regroup_stream.specs.Words.{Ambiguous, IsReadUnder, IsUnread, IsWrong, ambiguity_of, named_of, text_of_named, wrong_of}
use Rattle.regroup_stream.proofs.words.formats_named.Goals as goal

pub returns-in_err-source : goal.returns-in_err-source
returns-in_err-source c =
    let p = err_from_is_err_and c.from_residual.result c.from_residual.ensures.1 in
    rw (p.1, p.2) (IsWrong.first (wrong_of c.in_err-source.field-0.0) c.in_err-source.ensures)

pub returns-in-Some : goal.returns-in-Some
returns-in-Some c = rw c.text.ensures (IsWrong.unread c.in_ok-source.source c.in-Some.ambiguity c.in_ok-source.ensures
    (subst (λ n. IsUnread c.args.parsing n.format c.in-Some.ambiguity) c.source.view_is c.in-Some.ensures))

pub returns-in_err-target : goal.returns-in_err-target
returns-in_err-target c =
    let p = err_from_is_err_and c.from_residual-in_err-target.result c.from_residual-in_err-target.ensures.1 in
    rw (p.1, p.2) (IsWrong.second c.in_ok-source.source (wrong_of c.in_err-target.field-0.0) c.in_ok-source.ensures
    (subst (λ n. IsReadUnder c.args.parsing n.format) c.source.view_is c.in_default.ensures) c.in_err-target.ensures)

pub returns-then-not-marks_decimals : goal.returns-then-not-marks_decimals
returns-then-not-marks_decimals c =
    let from = named_of c.args.from in
    let to = named_of c.args.to in
    rw (c.text-then-not-marks_decimals.ensures, c.of.ensures)
    (subst (λ n. IsWrong c.args.parsing from to (Ambiguous (text_of_named to) (ambiguity_of n.format))) (sym c.target.view_is)
    (IsWrong.unwritten c.in_ok-source.source c.in_ok-target.target c.in_ok-source.ensures
    (subst (λ n. IsReadUnder c.args.parsing n.format) c.source.view_is c.in_default.ensures) c.in_ok-target.ensures
    (λ marked. both_ways _ c.if-not-marks_decimals.true
    (c.marks_decimals.ensures.1 (subst (λ n. MarksDecimals n.format) (sym c.target.view_is) marked)))))
