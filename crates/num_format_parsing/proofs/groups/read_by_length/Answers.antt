use Rattle.std.proofs.Common.{◌∙◌, ◌^◌, arith}
use Rattle.std.proofs.Math.Nat.{mod-eq_of_lt}
use Rattle.num_format_parsing.proofs.GroupsLemmas.{count-digits}
use Rattle.num_format_parsing.proofs.NumberLemmas.{number-few}
use Rattle.num_format_parsing.proofs.groups.read_by_length.Goals as goal

pub returns : goal.returns
returns c =
    let a = c.args in
    let r = c.requires in
    let read = c.in_ok-whole.ensures in
    let few =
    ((count-digits 3 a.size a.separator.now a.text.now r.separator r.plain r.size.0 (omega arith) read.0).1 (omega arith) r.size.1).0
    r.long.1 in
    (read.0, read.1.number ∙ mod-eq_of_lt (number-few (2 ^ 64) 19 a.text.now few (omega arith)))
