use Rattle.regroup_stream.proofs.totals.read_total.Goals as goal

pub returns : goal.returns
returns g c = record {
  received = _;
  left = _;
  totals = rw (c.in-Ok.ensures.inner, c.in-Ok.ensures.empty, c.new-summing.ensures.log) at c.total.ensures;
}
