use Rattle.std.proofs.Common.{◌%◌, ◌∙◌, length, ap, arith}
use Rattle.num_format_int.proofs.DigitLemmas.{length-put_group}
use Rattle.num_format_int.proofs.GroupLemmas.{one_more, group_fits}
use Rattle.num_format_int.proofs.to_formatted_str.put_full_groups.Goals as goal

pub put_group-requires-clause-fits : goal.put_group-requires-clause-fits
put_group-requires-clause-fits g c =
    let l = c.loop-left in
    let after = group_fits _ _ _ _ _ _ g.met.G.Groups.size (c.BASE-base.ensures ∙ g.met.G.Groups.base) c.loop-left-test.true
    c.requires.separator.1 l.invariant.fits in
    omega (arith, after, c.requires.fits)

pub loop-left-preserved : goal.loop-left-preserved
loop-left-preserved g c =
    let l = c.loop-left in
    let power = c.BASE-base.ensures ∙ g.met.G.Groups.base in
    let after = group_fits _ _ _ _ _ _ g.met.G.Groups.size power c.loop-left-test.true c.requires.separator.1 l.invariant.fits in
    record {
      prepends = one_more _ _ _ _ _ _ _ _ g.met.G.Groups.size power c.loop-left-test.true l.invariant.prepends c.put_group.ensures;
      fits = omega (
        arith,
        after,
        ap length c.put_group.ensures,
        c.requires.separator.0,
        length-put_group c.args.separator.now (g.B.PutFront.held l.buffer) g.G.Groups.SIZE (l.left % c.BASE-base.result),
      );
    }
