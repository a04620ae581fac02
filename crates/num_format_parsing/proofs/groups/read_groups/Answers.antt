use Rattle.std.proofs.Common.{◌≡◌, ◌+◌, ◌<◌, sym, subst, arith, rules, drop, length, length-drop, drop-drop}
use Rattle.std.proofs.lemmas.List.{take_rest}
use Rattle.num_format_parsing.specs.Parts.{AppendsGroup, BeginsWithGroup, HasDigits, IsInGroups}
use Rattle.num_format_parsing.proofs.GroupsLemmas.{IsLeft, IsReadTo, left-first, read-first, read-more, read-last, left-more, first-long}
use Rattle.num_format_parsing.proofs.GroupsLemmas.{lacks-more, lacks-length, lacks-last, map_option}
use Rattle.num_format_parsing.proofs.groups.read_groups.Goals as goal

pub returns-then-first-size : goal.returns-then-first-size
returns-then-first-size g c =
    let a = c.args in
    let r = c.requires in
    λ whole. omega (
      arith,
      c.if-first-size.true,
      first-long a.last a.size a.separator.now a.text.now a.first.digit_count r.separator r.plain
          r.begin whole,
      whole.few,
    )

pub loop-end-init : goal.loop-end-init
loop-end-init g c =
    let a = c.args in
    let r = c.requires in
    record {
      within = omega (arith, r.begin.inside);
      left = left-first a.last a.size a.separator.now a.text.now a.first.digit_count r.separator r.plain r.begin c.if-first-size.false;
      read = read-first g.A.Accumulator.bound a.text.now a.first.digit_count (g.A.Accumulator.number a.first.magnitude)
          (omega (arith, r.begin.inside)) r.read;
    }

pub returns-in_err-next : goal.returns-in_err-next
returns-in_err-next g c =
    let a = c.args in
    let l = c.loop-end in
    let s = a.separator.now in
    let t = a.text.now in
    let long : length s + a.last < length (drop l.end t) = omega (arith, length-drop l.end t, c.loop-end-test.true) in
    let lacks : ¬ (IsInGroups a.last a.size s t) =
    lacks-more a.last a.size s t (drop l.end t) l.invariant.left long (subst
    (λ x. ¬ (BeginsWithGroup s a.size x (drop (length s + a.size) x))) (take_rest t l.end) c.in_err-next.ensures) in
    search rules

pub loop-end-preserved : goal.loop-end-preserved
loop-end-preserved g c =
    let a = c.args in
    let l = c.loop-end in
    let s = a.separator.now in
    let t = a.text.now in
    let bound = g.A.Accumulator.bound in
    let n = g.A.Accumulator.number l.part.magnitude in
    let next = c.in_ok-next.next in
    let more = g.A.Accumulator.number next.magnitude in
    let step = length s + a.size in
    let long : length s + a.last < length (drop l.end t) = omega (arith, length-drop l.end t, c.loop-end-test.true) in
    let appends = subst (λ x. AppendsGroup bound s a.size x n more) (take_rest t l.end) c.in_ok-next.ensures.1 in
    let on : drop step (drop l.end t) ≡ drop (l.end + step) t = drop-drop step l.end t in
    record {
      within = omega (arith, c.loop-end-test.true, c.requires.size.1);
      left = subst (IsLeft a.last a.size s t) on (left-more a.last a.size s t (drop l.end t) l.invariant.left long appends.found);
      read = subst (λ x. IsReadTo bound t x next.digit_count more) on
          (subst (λ k. IsReadTo bound t (drop step (drop l.end t)) k more) (sym c.in_ok-next.ensures.0)
          (read-more bound s a.size t (drop l.end t) l.part.digit_count n more c.requires.plain l.invariant.read appends));
    }

pub returns-then-text-end : goal.returns-then-text-end
returns-then-text-end g c =
    let a = c.args in
    let l = c.loop-end in
    let t = a.text.now in
    lacks-length a.last a.size a.separator.now t (drop l.end t) l.invariant.left (omega (arith, length-drop l.end t, c.loop-end-test.false))
    (λ same. c.if-text-end.true (omega (arith, length-drop l.end t, same)))

pub returns : goal.returns
returns g c =
    let a = c.args in
    let l = c.loop-end in
    let s = a.separator.now in
    let t = a.text.now in
    let bound = g.A.Accumulator.bound in
    let n = g.A.Accumulator.number l.part.magnitude in
    let long : length (drop l.end t) ≡ length s + a.last = omega (arith, length-drop l.end t, c.if-text-end.false) in
    map_option c.push_group-2.result
    (λ lacks. lacks-last a.last a.size s t (drop l.end t) l.invariant.left c.requires.size.0 long
    (subst (λ x. ¬ (BeginsWithGroup s a.last x (drop (length s + a.last) x))) (take_rest t l.end) lacks))
    (λ whole read. subst (λ k. IsInGroups a.last a.size s t × HasDigits bound t k (g.A.Accumulator.number whole.magnitude)) (sym read.0)
    (read-last a.last a.size s t (drop l.end t) l.invariant.left bound l.part.digit_count n
    (g.A.Accumulator.number whole.magnitude) c.requires.plain long l.invariant.read
    (subst (λ x. AppendsGroup bound s a.last x n (g.A.Accumulator.number whole.magnitude)) (take_rest t l.end) read.1)))
    c.push_group-2.ensures
