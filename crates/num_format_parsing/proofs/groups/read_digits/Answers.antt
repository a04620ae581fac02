use Rattle.std.proofs.Common.{◌≡◌, ◌∙◌, true, sym, get_or, refl}
use Rattle.std.specs.Char.{is_ascii_digit}
use Rattle.std.proofs.lemmas.List.Folds.{list_all_more}
use Rattle.num_format_parsing.proofs.GroupsLemmas.{digit-appended}
use Rattle.num_format_parsing.proofs.groups.read_digits.Goals as goal

pub loop-digit_count-preserved : goal.loop-digit_count-preserved
loop-digit_count-preserved g c =
    let l = c.loop-digit_count in
    let text = c.args.text.now in
    let digit : is_ascii_digit (get_or text l.digit_count 0) ≡ true = sym c.is_ascii_digit.ensures.value ∙ c.if-not-is_ascii_digit.false in
    record {
      digits = list_all_more is_ascii_digit text l.digit_count 0 c.loop-digit_count-test.true ∙ rw (l.invariant.digits, digit) refl;
      read = digit-appended g.A.Accumulator.bound text l.digit_count (g.A.Accumulator.number l.magnitude)
          (g.A.Accumulator.number c.push_group-magnitude.result) c.loop-digit_count-test.true digit l.invariant.read
          c.push_group-magnitude.ensures;
    }
