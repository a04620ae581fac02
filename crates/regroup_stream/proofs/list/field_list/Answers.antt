use Rattle.std.proofs.Common.{List, None, Some, [], ap, arith, drop, false, length, map, rules, sym, true, ℕ}
use Rattle.std.proofs.Common.{◌++◌, ◌∙◌, ◌∷◌, ◌≡◌}
use Rattle.std.proofs.lemmas.List.{length_push, map-append}
use Rattle.std.specs.Borrow.{Bor}
use Rattle.std.specs.List.{filter}
use Rattle.std.specs.Option.{option_map}
use Rattle.regroup_stream.specs.Lists.{NAMED, is_name, parts_of, range_in, ranges_in}
use Rattle.std.proofs.lemmas.Iterator.Consumers.{YieldsList-end, YieldsList-turn}
use Rattle.std.proofs.lemmas.Iterator.Splits.{YieldsList-from_str_split}
use Rattle.regroup_stream.proofs.ListLemmas.{list-all, list-refused, names-next, names-passed, ranges-named, ranges-other}
use Rattle.regroup_stream.proofs.list.field_list.Goals as goal

pub returns-in_default : goal.returns-in_default
returns-in_default c =
    let parts = parts_of c.args.text.now in
    let n = length c.loop-part.yielded in
    let items = c.loop-part.ranges.items in
    let names = map (λ (name : Bor (List ℕ)). name.now) c.loop-part.names.items in
    let so_far = c.loop-part.invariant.2 in
    let named = c.loop-part.invariant.3 in
    let turn = YieldsList-turn (YieldsList-from_str_split 44 c.args.text.now (omega arith) (cc) (cc) (cc)) c.loop-part.yielded _
    c.loop-part.yielded_by _ _ c.in-Some.part c.in-Some.is c.next.ensures.steps in
    let other : is_name c.in-Some.part.now ≡ false = search rules in
    let none : range_in c.in-Some.part.now ≡ None = search rules in
    sym (list-refused parts n items names so_far named c.in-Some.part.now turn other none)

pub loop-part-preserved-in-Continue-branch-2 : goal.loop-part-preserved-in-Continue-branch-2
loop-part-preserved-in-Continue-branch-2 c =
    let parts = parts_of c.args.text.now in
    let n = length c.loop-part.yielded in
    let items = c.loop-part.ranges.items in
    let names = map (λ (name : Bor (List ℕ)). name.now) c.loop-part.names.items in
    let so_far = c.loop-part.invariant.2 in
    let named = c.loop-part.invariant.3 in
    let turn = YieldsList-turn (YieldsList-from_str_split 44 c.args.text.now (omega arith) (cc) (cc) (cc)) c.loop-part.yielded _
    c.loop-part.yielded_by _ _ c.in-Some.part c.in-Some.is c.next.ensures.steps in
    let is : is_name c.in-Some.part.now ≡ true = search rules in
    let onward = sym (length_push c.loop-part.yielded c.in-Some.part) in
    let pushed = ap (map (λ (name : Bor (List ℕ)). name.now)) c.in_ok-push.ensures.items
    ∙ map-append (λ (name : Bor (List ℕ)). name.now) c.loop-part.names.items (c.in-Some.part ∷ []) in (
      tt,
      tt,
      ranges-named parts n items names so_far named c.in-Some.part.now turn is
          ∙ ap (λ k. option_map (λ later. (items ++ NAMED ∷ []) ++ later) (ranges_in (drop k parts))) onward
          ∙ ap (λ l. option_map (λ later. l ++ later) (ranges_in (drop (length (c.loop-part.yielded ++ c.in-Some.part ∷ [])) parts)))
          (sym c.in_ok-push-2.ensures.items),
      names-next parts n items names so_far named c.in-Some.part.now turn is
          ∙ ap (λ k. (names ++ c.in-Some.part.now ∷ []) ++ filter is_name (drop k parts)) onward
          ∙ ap (λ l. l ++ filter is_name (drop (length (c.loop-part.yielded ++ c.in-Some.part ∷ [])) parts)) (sym pushed),
    )

pub loop-part-preserved : goal.loop-part-preserved
loop-part-preserved c =
    let parts = parts_of c.args.text.now in
    let n = length c.loop-part.yielded in
    let items = c.loop-part.ranges.items in
    let names = map (λ (name : Bor (List ℕ)). name.now) c.loop-part.names.items in
    let so_far = c.loop-part.invariant.2 in
    let named = c.loop-part.invariant.3 in
    let turn = YieldsList-turn (YieldsList-from_str_split 44 c.args.text.now (omega arith) (cc) (cc) (cc)) c.loop-part.yielded _
    c.loop-part.yielded_by _ _ c.in-Some.part c.in-Some.is c.next.ensures.steps in
    let other : is_name c.in-Some.part.now ≡ false = search rules in
    let some : range_in c.in-Some.part.now ≡ Some c.in-Some-range_in.range = search rules in
    let onward = sym (length_push c.loop-part.yielded c.in-Some.part) in (
      tt,
      tt,
      ranges-other parts n items names so_far named c.in-Some.part.now turn other c.in-Some-range_in.range some
          ∙ ap (λ k. option_map (λ later. (items ++ c.in-Some-range_in.range ∷ []) ++ later) (ranges_in (drop k parts))) onward
          ∙ ap (λ l. option_map (λ later. l ++ later) (ranges_in (drop (length (c.loop-part.yielded ++ c.in-Some.part ∷ [])) parts)))
          (sym c.in_ok-push-3.ensures.items),
      names-passed parts n items names so_far named c.in-Some.part.now turn other
          ∙ ap (λ k. names ++ filter is_name (drop k parts)) onward,
    )

pub returns : goal.returns
returns c =
    let parts = parts_of c.args.text.now in
    let n = length c.loop-part.yielded in
    let items = c.loop-part.ranges.items in
    let names = map (λ (name : Bor (List ℕ)). name.now) c.loop-part.names.items in
    let so_far = c.loop-part.invariant.2 in
    let named = c.loop-part.invariant.3 in
    let end = YieldsList-end (YieldsList-from_str_split 44 c.args.text.now (omega arith) (cc) (cc) (cc)) c.loop-part.yielded _
    c.loop-part.yielded_by _ _ c.in-None.is c.next.ensures.steps in
    sym (list-all parts n items names so_far named end.1)
