use Rattle.std.proofs.Common.{length, ap, arith, inl, inr}
use Rattle.std.proofs.lemmas.List.{take_rest}
use Rattle.num_format_decimal.proofs.ParserLemmas.{no_mark, no_room, no_scale}
use Rattle.num_format_decimal.proofs.parser.DecimalParser.mark_place.Goals as goal
use Rattle.num_format_decimal.proofs.parser.DecimalParser.mark_place.Goals.{then-count-eq0-via-then-count-eq0}
use Rattle.num_format_decimal.proofs.parser.DecimalParser.mark_place.Goals.{then-count-eq0-via-else-count-eq0+then-count}

pub returns-then-count-eq0 : goal.returns-then-count-eq0
returns-then-count-eq0 g c =
    let count = c.trailing_digits-count in
    no_scale c.args.self.now c.args.text.now count.result c.mark-mark.ensures.plain count.ensures.value (elim c.then-count-eq0.branch [
      | then-count-eq0-via-then-count-eq0 w ↦ inl (omega (arith, w.if-count-eq0.true))
      | then-count-eq0-via-else-count-eq0+then-count w ↦ inr (omega (arith, w.if-count.true))
    ])

pub returns-in_err-place : goal.returns-in_err-place
returns-in_err-place g c =
    let count = c.trailing_digits-count in
    rw c.from_residual.ensures (no_room c.args.self.now c.args.text.now count.result c.mark-mark.ensures.plain count.ensures.value
    (omega (arith, c.in_err-place.ensures, ap length c.mark-mark.ensures.same, count.ensures.within)))

pub returns-then-not-begins_with : goal.returns-then-not-begins_with
returns-then-not-begins_with g c =
    let t = c.args.text.now in
    let count = c.trailing_digits-count in
    let place = c.in_ok-place.place in
    no_mark c.args.self.now t count.result c.mark-mark.ensures.plain count.ensures.value place
    (omega (arith, c.in_ok-place.ensures, ap length c.mark-mark.ensures.same, count.ensures.within))
    (cc (c.as_bytes.ensures.value, c.mark-mark.ensures.same, take_rest t place, c.begins_with.ensures, c.if-not-begins_with.true))
