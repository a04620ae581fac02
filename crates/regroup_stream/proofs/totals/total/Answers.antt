use Rattle.std.proofs.Common.{ap, refl}
use Rattle.std.specs.Io.Buffered.{writer_inner}
use Rattle.regroup_stream.specs.declared.words.Formats.{Formats}
use Rattle.regroup_stream.proofs.totals.total.Goals as goal

pub returns : goal.returns
returns g c =
    let summing = writer_inner c.run_each-status.new.out in
    record {
      is_whole = c.run_each-status.result.1;
      runs = rw c.numbers_alone.ensures at c.run_each-status.ensures;
      format = summing.parser;
      received = g.L.Log.received summing.log;
      failure = summing.failure;
      sums = summing.sums.items;
      are_received = refl;
      are_sums = summing.exact;
      total_is = rw (c.get_ref.ensures, ap (λ (formats : Formats). formats.to.format) c.formats.view_is) at c.total_text.ensures;
    }
