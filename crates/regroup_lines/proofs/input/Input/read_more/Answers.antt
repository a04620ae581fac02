use Rattle.regroup_lines.proofs.Common.{◌≤◌, ◌++◌, length, take, ap, sym, ◌∙◌, arith}
use Rattle.regroup_lines.proofs.InputLemmas.{Reads-kept, range-more, range-same}
use Rattle.regroup_lines.proofs.input.Input.read_more.Goals as goal

pub returns-in_default-clause-read : goal.returns-in_default-clause-read
returns-in_default-clause-read g c =
    let input = c.move_to_front.new.self in
    let same = range-same input.array.now c.read.new.buf input.start input.end _ input.ordered (omega arith) in
    Reads-kept _ _ _ _ (same ∙ c.move_to_front.ensures.held) c.in_default.ensures.bytes

pub returns-clause-read : goal.returns-clause-read
returns-clause-read g c =
    let input = c.move_to_front.new.self in
    let n = c.in-Ok.count in
    let fits : n ≤ length c.read.new.buf = c.in-Ok.ensures.bound.0 in
    record {
      given = take n c.read.new.buf;
      joined = ap (λ l. l ++ take n c.read.new.buf) (sym c.move_to_front.ensures.held)
          ∙ sym (range-more input.array.now c.read.new.buf input.start input.end _ n input.ordered (omega arith) fits);
      consumed = c.in-Ok.ensures.bytes.0;
    }
