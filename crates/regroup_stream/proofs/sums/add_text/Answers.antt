use Rattle.std.proofs.Common.{◌<◌, None, Some, arith, length, refl}
use Rattle.std.proofs.lemmas.List.{get_or_read}
use Rattle.regroup_stream.proofs.SumLemmas.{put-end, put-inside, put-none}
use Rattle.regroup_stream.proofs.sums.add_text.Goals as goal

pub returns-in-Ok-clause-added : goal.returns-in-Ok-clause-added
returns-in-Ok-clause-added c =
    let number = c.in_ok-number.number in
    (number, c.in_ok-number.ensures, put-end c.args.column c.args.sums.now.items _ number (cc) c.in-Ok.ensures.items)

pub returns-in_default-clause-added : goal.returns-in_default-clause-added
returns-in_default-clause-added c =
    let other = c.if-column-len.false in
    let len = c.len.ensures in
    let most = c.requires in
    (None, rw c.in_default.is at c.in_ok-number.ensures, put-none c.args.column _ _ (omega (arith, most, other, len)) refl)

pub returns-clause-added : goal.returns-clause-added
returns-clause-added c =
    let other = c.if-column-len.false in
    let len = c.len.ensures in
    let most = c.requires in
    let sums = c.args.sums.now.items in
    let inside : c.args.column < length sums = omega (arith, most, other, len) in (
      Some c.in-Some.number,
      rw c.in-Some.is at c.in_ok-number.ensures,
      put-inside c.args.column _ _ c.in-Some.number c.in_ok-sum.sum _ inside
          (get_or_read sums c.args.column c.index.result.now inside c.index.ensures None) c.in_ok-sum.ensures refl,
    )
