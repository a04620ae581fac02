use Rattle.std.proofs.Common.{◌∙◌, refl, sym}
use Rattle.num_format_digits.proofs.PlainLemmas.{nothing, plain_symbol}
use Rattle.num_format_digits.proofs.TextLemmas.{copied_after}
use Rattle.num_format_digits.proofs.digits.Digits.take_digits.Goals as goal
use Rattle.num_format_digits.proofs.digits.Digits.take_digits.Goals.{then-is_plain, else-is_plain}

pub loop-left-init : goal.loop-left-init
loop-left-init c =
    let run = c.take_run-len.ensures in
    record { shown = run.shown c.args.text.now refl; plain = λ _. run.plain nothing; room = run.room }

pub loop-left-preserved : goal.loop-left-preserved
loop-left-preserved c =
    let l = c.loop-left in
    let left = l.left.now in
    let n = c.in_ok-count.count in
    let copy = c.in_ok-count.ensures in
    let array = c.copy_symbol.new.array in
    let run = c.take_run.ensures in
    record {
      shown = run.shown c.args.text.now (copied_after c.args.self l.len n c.args.text.now left _ l.array array l.invariant.shown
          copy.copied (copy.same c.args.self) refl);
      plain = elim c.if-is_plain.branch [
        | then-is_plain w ↦ λ is. run.plain (plain_symbol l.len n l.array array left copy.copied
            (l.invariant.plain w.if-is_plain.true) (copy.plain (sym w.is_plain-is ∙ is)))
        | else-is_plain w ↦ λ is. (let wrong = sym w.is_plain-is ∙ is in cc)
      ];
      room = run.room;
    }
