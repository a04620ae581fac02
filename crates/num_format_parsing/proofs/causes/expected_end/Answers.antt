use Rattle.std.proofs.Common.{◌≡◌, ◌∙◌, true, subst, sym, ap, arith, length, drop, drop-drop}
use Rattle.std.proofs.lemmas.List.{take_rest, length-drop}
use Rattle.num_format_parsing.specs.Strict.{begins, unread}
use Rattle.num_format_parsing.proofs.UnreadLemmas.{begins-fits, unread-begins}
use Rattle.num_format_parsing.proofs.causes.expected_end.Goals as goal

pub loop-place-preserved-then-begins_with : goal.loop-place-preserved-then-begins_with
loop-place-preserved-then-begins_with c =
    let l = c.loop-place in
    let s = c.args.separator.now in
    let rest = drop l.place c.args.text.now in
    let begin : begins s rest ≡ true = subst (λ x. begins s x ≡ true) (take_rest c.args.text.now l.place) (sym c.begins_with.ensures
    ∙ c.if-begins_with.true) in
    record {
      within = omega (arith, begins-fits s rest begin, length-drop l.place c.args.text.now, l.invariant.within);
      rest = l.invariant.rest ∙ unread-begins s rest begin ∙ ap (unread s 0) (drop-drop (length s) l.place c.args.text.now);
    }
