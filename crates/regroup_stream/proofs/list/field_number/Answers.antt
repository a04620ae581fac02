use Rattle.std.specs.Char.{is_ascii_digit}
use Rattle.std.specs.List.{list_all}
use Rattle.std.proofs.Common.{rules, true, ◌≡◌}
use Rattle.regroup_stream.proofs.ListLemmas.{number-err}
use Rattle.regroup_stream.proofs.list.field_number.Goals as goal

pub returns-in-Err : goal.returns-in-Err
returns-in-Err c =
    let digits : list_all is_ascii_digit c.args.text.now ≡ true = search rules in
    number-err c.args.text.now c.in-Err.field-0 c.parse.result c.in-Err.is c.parse.ensures.value.0 digits
