use Rattle.std.proofs.Common.{◌%◌, ◌/◌, ◌++◌, ◌∙◌, length, ap, sym, arith}
use Rattle.num_format_int.specs.Digits.{digits}
use Rattle.num_format_int.specs.Grouped.{separated}
use Rattle.num_format_int.specs.Groups.{last_digits, plain}
use Rattle.num_format_int.proofs.DigitLemmas.{digits-split, last_digits-mod, length-digits-gt, length-digits-split, length-put_group}
use Rattle.num_format_int.proofs.GroupLemmas.{last_bounds, last_group}
use Rattle.num_format_int.proofs.to_formatted_str.put_separated.Goals as goal

pub put_group-requires-clause-fits : goal.put_group-requires-clause-fits
put_group-requires-clause-fits g c =
    let size = g.L.Groups.SIZE in
    let many = length-digits-gt size c.args.n (rw (← g.met.L.Groups.base) c.requires.some) in
    omega (arith, many, (last_bounds size g.L.LastGroup.MIDDLE g.met.L.LastGroup.parts).0, c.requires.fits, c.requires.separator.1)

pub put_parts-requires-clause-fits : goal.put_parts-requires-clause-fits
put_parts-requires-clause-fits g c =
    let size = g.L.Groups.SIZE in
    omega (
      arith,
      ap (λ m. length (digits m)) (c.parts-first.ensures.rest ∙ ap (λ b. c.args.n / b) g.met.L.Groups.base),
      length-digits-split size c.args.n (rw (← g.met.L.Groups.base) c.requires.some),
      ap length c.put_group.ensures,
      length-put_group c.args.separator.now (g.B.PutFront.held c.args.buffer.now) size c.parts-first.result.2,
      (last_bounds size g.L.LastGroup.MIDDLE g.met.L.LastGroup.parts).0,
      c.requires.fits,
      c.requires.separator.0,
      c.requires.separator.1,
    )

pub returns : goal.returns
returns g c = λ is_due last groups.
    let n = c.args.n in
    let s = c.args.separator.now in
    let old = g.B.PutFront.held c.args.buffer.now in
    let size = g.L.Groups.SIZE in
    let power = g.met.L.Groups.base in
    let group = ap (last_digits size) (c.parts-first.ensures.last ∙ ap (λ b. n % b) power) ∙ last_digits-mod size n in
    let before = last_group is_due s old (g.B.PutFront.held c.put_group.new.buffer) size n last (c.put_group.ensures
    ∙ ap (λ ds. s ++ (plain ds ++ old)) group) in
    c.put_parts.ensures is_due (last_digits size n) old groups before
    ∙ ap (λ ds. separated is_due s ds ++ old)
    (ap (λ m. digits m ++ last_digits size n) (c.parts-first.ensures.rest ∙ ap (λ b. n / b) power)
    ∙ sym (digits-split size n (rw (← power) c.requires.some)))
