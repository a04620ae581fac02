use Rattle.std.proofs.Common.{sym, arith}
use Rattle.num_format_int.proofs.GroupedLemmas.{separators-few, separators-many, separators-none}
use Rattle.num_format_writers.proofs.formatted.separator_count.Goals as goal

pub returns-in_default-clause-value : goal.returns-in_default-clause-value
returns-in_default-clause-value c = sym (separators-none c.args.grouping c.in_default.ensures c.args.digits)

pub returns-then-digits-sizes-clause-value : goal.returns-then-digits-sizes-clause-value
returns-then-digits-sizes-clause-value c =
    sym (separators-few c.args.grouping c.in-Some.sizes c.in-Some.ensures c.args.digits c.if-digits-sizes.true)

pub returns-clause-value : goal.returns-clause-value
returns-clause-value c =
    omega (arith, separators-many c.args.grouping c.in-Some.sizes c.in-Some.ensures c.args.digits c.if-digits-sizes.false, c.divide.ensures)
