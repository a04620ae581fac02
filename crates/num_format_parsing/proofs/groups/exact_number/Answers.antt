use Rattle.std.proofs.Common.{◌<◌, ◌+◌, ◌∙◌, ap, sym, arith, get_or}
use Rattle.std.specs.Int.Digits.{number_from_digits}
use Rattle.std.proofs.lemmas.Bool.Decides.{nat_tests}
use Rattle.num_format_parsing.proofs.NumberLemmas.{text_digits-on-other, number-before, number-digit}
use Rattle.num_format_parsing.proofs.ReadingLemmas.{tenfold}
use Rattle.num_format_parsing.proofs.groups.exact_number.Goals as goal
use Rattle.num_format_parsing.proofs.groups.exact_number.Goals.{then-is_ascii_digit+in_ok-number, else-is_ascii_digit}

pub returns-in_err-number : goal.returns-in_err-number
returns-in_err-number g c =
    let l = c.loop-digit_count in
    let t = c.args.text.now in
    let on = number-digit t l.digit_count c.loop-digit_count-test.true (sym c.is_ascii_digit.ensures.value ∙ c.if-is_ascii_digit.true) in
    rw c.from_residual.ensures (omega (arith, on, number-before t (l.digit_count + 1), l.invariant.number, c.in_err-number.ensures))

pub loop-digit_count-preserved : goal.loop-digit_count-preserved
loop-digit_count-preserved g c =
    let l = c.loop-digit_count in
    let t = c.args.text.now in
    elim c.if-is_ascii_digit.branch [
      | then-is_ascii_digit+in_ok-number w ↦
          let digit = sym c.is_ascii_digit.ensures.value ∙ w.if-is_ascii_digit.true in
          let small : get_or t l.digit_count 0 < 58 = grind (arith, nat_tests, digit) in
          rw w.number-is (record {
            number = omega (
              arith,
              w.in_ok-number.ensures,
              l.invariant.number,
              number-digit t l.digit_count c.loop-digit_count-test.true digit,
            );
            below = omega (arith, w.in_ok-number.ensures, l.invariant.below, tenfold l.digit_count, small);
          })
      | else-is_ascii_digit w ↦
          rw w.number-is (record {
            number = l.invariant.number
                ∙ ap (number_from_digits 10) (sym (text_digits-on-other t l.digit_count c.loop-digit_count-test.true
                (sym c.is_ascii_digit.ensures.value
                ∙ w.if-is_ascii_digit.false)));
            below = omega (arith, l.invariant.below, tenfold l.digit_count);
          })
    ]
