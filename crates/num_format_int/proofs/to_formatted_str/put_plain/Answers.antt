use Rattle.num_format_int.specs.Digits.{digits}
use Rattle.num_format_int.proofs.GroupLemmas.{ungrouped}
use Rattle.num_format_int.proofs.to_formatted_str.put_plain.Goals as goal

pub returns : goal.returns
returns g c =
    ungrouped (digits c.args.n) (g.B.PutFront.held c.args.buffer.now) (g.B.PutFront.held c.put_separated.new.buffer) c.put_separated.ensures
