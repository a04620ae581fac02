use Rattle.std.proofs.Common.{◌<◌, sym, arith}
use Rattle.std.proofs.lemmas.Bool.Decides.{nat_tests}
use Rattle.num_format_parsing.proofs.ReadingLemmas.{is_other_numeral-ascii}
use Rattle.num_format_parsing.proofs.symbols.is_other_numeral.Goals as goal

pub returns-else-not-is_ascii : goal.returns-else-not-is_ascii
returns-else-not-is_ascii c =
    let ascii : c.args.character < 128 = grind (arith, nat_tests, c.is_ascii.ensures, c.if-not-is_ascii.false) in
    rw c.if-not-is_ascii.false (sym (is_other_numeral-ascii c.args.character ascii))
