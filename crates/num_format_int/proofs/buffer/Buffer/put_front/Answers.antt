use Rattle.std.proofs.Common.{◌≡◌, ◌≤◌, ◌∙◌, ◌-◌, length, arith}
use Rattle.std.proofs.lemmas.Str.{IsCharBoundary-start}
use Rattle.num_format_int.proofs.BufferLemmas.{zeros_kept}
use Rattle.num_format_int.proofs.buffer.Buffer.put_front.Goals as goal

pub invariant_of-self : goal.invariant_of-self
invariant_of-self c =
    let before = c.self.inside in
    let copy = c.copy_before-self-inside in
    let start : before.start - length c.args.text.now ≡ copy.result = omega (arith, copy.ensures.start) in
    let fewer : copy.result ≤ before.start = omega (arith, copy.ensures.start) in (
      omega (arith, c.self.invariant.0),
      copy.ensures.length ∙ c.self.told,
      zeros_kept before.inner copy.new.array before.start copy.result fewer (rw start at copy.ensures.before) c.self.invariant.2,
      copy.ensures.utf8 (IsCharBoundary-start c.args.text.now c.utf8.text) c.self.invariant.3,
    )
