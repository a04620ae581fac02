use Rattle.std.proofs.Common.{◌≡◌, ◌+◌, ◌-◌, ◌≤◌, ◌∙◌, [], ◌∷◌, length, drop, ap, arith, rules, refl, length-drop}
use Rattle.std.proofs.lemmas.Slice.{drop-put_mid}
use Rattle.num_format_int.proofs.BufferLemmas.{zeros_kept, two_zeroed}
use Rattle.num_format_int.proofs.buffer.BufferPutFront.put_end.Goals as goal

pub invariant_of-self : goal.invariant_of-self
invariant_of-self c =
    let before = c.self.inside in
    let copied = c.copy_before-start.ensures in
    let first = before.start - length c.args.text.now in
    let long = ap length c.self.view_is in
    let rest = length-drop before.start before.inner in
    two_zeroed c.copy_before-start.new.array _ first c.copy_before-start.result (omega arith)
    (zeros_kept before.inner _ before.start first (omega arith) copied.before c.self.invariant.2)
    (omega (arith, long, rest)) (omega (arith, long, rest)) (omega (arith, long, rest)) (omega (arith, long, rest))
    c.copy_from_slice.ensures.after (copied.utf8 c.requires.boundary.1 c.self.invariant.3)

pub returns : goal.returns
returns c =
    let before = c.self.inside in
    let array = c.copy_before-start.new.array in
    let start = c.copy_before-start.result in
    let copied = c.copy_before-start.ensures in
    let fits : length c.args.text.now + 2 ≤ before.start = omega (
      arith,
      c.self.told,
      c.requires.fits,
      ap length c.self.view_is,
      length-drop before.start before.inner,
    ) in
    let inside : start ≤ length array = omega (arith, c.self.told, copied.length, copied.start, c.self.invariant.0, c.requires.boundary.0)
    in
    let old : drop before.start before.inner ≡ c.args.self.now = search rules in
    rw c.copy_from_slice.ensures.after
    (drop-put_mid (start - 2) (start - (start - 2)) array (0 ∷ 0 ∷ []) start (omega (arith, fits, copied.start)) (omega (arith, inside))
    (omega (arith, fits, copied.start)) ∙ copied.text ∙ rw old refl)
