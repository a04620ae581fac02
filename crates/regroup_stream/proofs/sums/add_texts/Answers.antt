use Rattle.std.proofs.Common.{◌∙◌, [], arith, refl}
use Rattle.regroup_stream.specs.Columns.{AreNumbers, between_tabs}
use Rattle.regroup_stream.proofs.SumLemmas.{AreAdded-more, column-reached, last-added}
use Rattle.regroup_stream.proofs.TabLemmas.{next-text}
use Rattle.regroup_stream.proofs.sums.add_texts.Goals as goal

pub loop-text-init : goal.loop-text-init
loop-text-init c = record {
  added = record { numbers = []; are = AreNumbers.none; count = refl; added = refl };
  left = refl;
  within = omega arith;
}

pub add_text-requires : goal.add_text-requires
add_text-requires c = column-reached c.args.parser.now (between_tabs c.args.line.now) c.args.sums.now.items c.loop-text.sums.items
    c.loop-text.column _ c.loop-text.invariant.added (c.loop-text.invariant.left ∙ c.in-Some.ensures.texts) (omega arith)

pub add_text-requires-2 : goal.add_text-requires-2
add_text-requires-2 c = column-reached c.args.parser.now (between_tabs c.args.line.now) c.args.sums.now.items c.loop-text.sums.items
    c.loop-text.column _ c.loop-text.invariant.added (c.loop-text.invariant.left ∙ c.in_default.ensures.texts) (omega arith)

pub loop-text-preserved : goal.loop-text-preserved
loop-text-preserved c =
    let texts = between_tabs c.args.line.now in
    let column = c.loop-text.column in
    let next = c.loop-text.invariant.left ∙ c.in-Some.ensures.texts in
    let within = c.loop-text.invariant.within in
    let shorter = c.in-Some.ensures.shorter in record {
      added = AreAdded-more c.args.parser.now texts c.args.sums.now.items c.loop-text.sums.items c.add_text.new.sums.items column
          c.in-Some.text.now _ c.loop-text.invariant.added next c.in_ok-add_text.ensures.added;
      left = (next-text texts column c.in-Some.text.now _ next).2;
      within = omega (arith, within, shorter);
    }

pub returns : goal.returns
returns c = last-added c.args.parser.now (between_tabs c.args.line.now) c.args.sums.now.items c.loop-text.sums.items
    c.add_text-2.new.sums.items c.loop-text.column c.loop-text.left.now c.add_text-2.result c.loop-text.invariant.added
    (c.loop-text.invariant.left ∙ c.in_default.ensures.texts) c.add_text-2.ensures.added
