use Rattle.std.proofs.Common.{◌≡◌, ◌<◌, ◌∙◌, ap, get_or, length, sym, arith}
use Rattle.std.proofs.lemmas.Bool.Decides.{nat_tests}
use Rattle.num_format_parsing.proofs.DigitLemmas.{begins-at}
use Rattle.num_format_parsing.proofs.bytes.begins_with_digit.Goals as goal

pub returns-then-is_ascii_digit : goal.returns-then-is_ascii_digit
returns-then-is_ascii_digit c =
    let empty = sym c.is_empty.ensures ∙ c.if-is_empty.false in
    let some : 0 < length c.args.text.now = grind (arith, nat_tests, empty) in (
      λ test. begins-at c.args.text.now 0 some (sym c.is_ascii_digit.ensures.value ∙ c.if-is_ascii_digit.true)
          (λ same. grind (arith, nat_tests, test, same)),
      λ begin. let other : ¬ (get_or c.args.text.now 0 0 ≡ 48) =
          (λ same. omega (arith, ap (λ xs. get_or xs 0 0) begin.same, same, begin.some)) in grind (arith, nat_tests, other),
    )
