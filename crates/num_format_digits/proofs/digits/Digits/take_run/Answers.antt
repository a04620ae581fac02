use Rattle.std.proofs.Common.{◌<◌, ◌∙◌, ◌++◌, ap, arith, length, sym}
use Rattle.std.proofs.lemmas.List.{length-drop, length-set, take_rest}
use Rattle.num_format_digits.specs.Digits.{shown_byte}
use Rattle.num_format_digits.proofs.PlainLemmas.{plain_digit}
use Rattle.num_format_digits.proofs.TextLemmas.{taken_next}
use Rattle.num_format_digits.proofs.digits.Digits.take_run.Goals as goal

pub loop-digit-preserved : goal.loop-digit-preserved
loop-digit-preserved c =
    let z = c.args.self in
    let w = c.args.width in
    let l = c.loop-digit in
    let left = l.left.now in
    let d = c.in-Some.digit in
    let first = c.in-Some.ensures in
    let within = first.within in
    let room = l.invariant.room in
    let shorter = l.invariant.shorter in
    let inside : l.len < length l.array = omega (arith, room, within.0, within.1) in
    let rest = ap length (take_rest left w) ∙ length-drop w left in
    let same = length-set l.array l.len d in
    record {
      shown = λ whole before. taken_next z l.len d whole left _ l.array (l.invariant.shown whole before)
          (first.shown ∙ ap (λ t. shown_byte z d ++ t) (sym (take_rest left w))) inside;
      plain = λ before. plain_digit l.len d l.array (l.invariant.plain before) first.digit inside;
      room = omega (arith, room, rest, same, within.0, within.1);
      shorter = omega (arith, shorter, rest);
    }
