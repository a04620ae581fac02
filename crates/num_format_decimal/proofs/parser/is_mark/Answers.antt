use Rattle.std.proofs.Common.{◌≡◌, ◌<◌, ◌∙◌, [], length, ap, sym, arith, append-nil}
use Rattle.std.proofs.lemmas.Bool.{both_ways}
use Rattle.std.proofs.lemmas.Bool.Decides.{Decides-eqb, nat_tests}
use Rattle.std.proofs.lemmas.Slice.Eq.{slice_eq-Decides}
use Rattle.num_format_parsing.proofs.UnreadLemmas.{begins-append}
use Rattle.num_format_decimal.proofs.parser.is_mark.Goals as goal
use Rattle.num_format_decimal.proofs.parser.is_mark.Goals.{else-begins_with-via-then-begins_with+else-eq}
use Rattle.num_format_decimal.proofs.parser.is_mark.Goals.{else-begins_with-via-else-begins_with}

pub returns : goal.returns
returns c =
    let m = c.args.mark.now in
    let s = c.as_bytes-2.result.now in
    let some : 0 < length m = grind (arith, nat_tests, c.is_empty.ensures, c.if-is_empty.false) in
    let apart : ¬ (m ≡ c.args.separator.now) = λ same.
    let bytes : m ≡ s = same ∙ sym c.as_bytes-2.ensures.value in
    elim c.else-begins_with.branch [
      | else-begins_with-via-then-begins_with+else-eq w ↦ both_ways _ w.if-eq.false
          ((slice_eq-Decides Decides-eqb m c.args.separator.now w.eq.result w.eq.ensures).1 same)
      | else-begins_with-via-else-begins_with w ↦
          both_ways _ w.if-begins_with.false (c.begins_with.ensures
          ∙ begins-append s c.as_bytes.result.now [] (omega (arith, some, ap length bytes))
          (c.as_bytes.ensures.value ∙ bytes ∙ sym (append-nil s)))
    ] in (
      λ yes. record { given = λ none. omega (arith, some, ap length none); plain = c.is_plain.ensures.0 yes; apart = apart },
      λ mark. c.is_plain.ensures.1 mark.plain,
    )
