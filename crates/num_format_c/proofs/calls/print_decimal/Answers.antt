use Rattle.std.proofs.Common.{◌≡◌, ◌≤◌, ℤ, List, ℕ, arith, rules, subst}
use Rattle.num_format_decimal.specs.FixedPoint.{FixedPoint}
use Rattle.num_format_decimal.specs.Text.{decimal_text}
use Rattle.num_format_decimal.specs.declared.decimal.TheConstants.{MAX_SCALE}
use Rattle.num_format_c.specs.Calls.{PrintsDecimal, PrintsText}
use Rattle.num_format_c.specs.declared.format.NumFormat.{NumFormat}
use Rattle.num_format_c.proofs.DigitLemmas.{prints_latin}
use Rattle.num_format_c.proofs.calls.print_decimal.Goals as goal

printed : {s : NumFormat} (d n : FixedPoint) {old new : List ℕ} {result : ℤ} → (d.scale ≤ MAX_SCALE) × (n ≡ d)
    → PrintsText s (λ f. decimal_text f n) old new result → PrintsDecimal s d old new result
printed {s} d n {old} {new} {result} is text = record {
  bad_scale = λ wide. absurd (omega (arith, is.0, wide));
  printed = λ _. subst (λ n. PrintsText s (λ f. decimal_text f n) old new result) is.1 text;
}

pub returns-in-Ok : goal.returns-in-Ok
returns-in-Ok c =
    printed _ c.in_ok-number.number c.in_ok-number.ensures
    (prints_latin c.in-Ok.ensures (λ f. decimal_text f c.in_ok-number.number) (search rules))

pub returns-in-Err : goal.returns-in-Err
returns-in-Err c = printed _ c.in_ok-number.number c.in_ok-number.ensures c.print_decimal.ensures
