use Rattle.regroup_lines.proofs.Common.{arith, err_from_is_err_and, length, ◌<◌}
use Rattle.regroup_lines.proofs.CsvLemmas.{parts-unsent}
use Rattle.regroup_lines.proofs.sending.send_all.Goals as goal

pub returns-in_err-send_whole : goal.returns-in_err-send_whole
returns-in_err-send_whole g c =
    let low : c.loop-part.part-index < length c.args.parts.now = omega arith in
    let p = err_from_is_err_and c.from_residual.result c.from_residual.ensures.1 in
    rw (p.1, p.2) (record {
      whole = tt;
      prefix = parts-unsent (λ part. part.now) c.args.parts.now c.loop-part.part-index _ _ _ _ low c.loop-part.invariant
          c.in_err-send_whole.ensures.prefix;
    })
