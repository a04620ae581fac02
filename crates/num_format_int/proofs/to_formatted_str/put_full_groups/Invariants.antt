use Rattle.std.proofs.Common.{◌+◌, ◌*◌, ◌≤◌, length}
use Rattle.num_format_int.specs.Digits.{digits}
use Rattle.num_format_int.specs.Groups.{PrependsAllBut}
use Rattle.num_format_int.proofs.to_formatted_str.put_full_groups.Given as goal

-- a group and its separator take no more than five bytes a digit
abbrev pub invariant-loop-left : goal.invariant-loop-left
invariant-loop-left g l = record {
  prepends : PrependsAllBut g.G.Groups.SIZE l.n l.left l.separator (g.B.PutFront.held l.fn.buffer) (g.B.PutFront.held l.buffer);
  fits : length (g.B.PutFront.held l.buffer) + 5 * length (digits l.left)
      ≤ length (g.B.PutFront.held l.fn.buffer) + 5 * length (digits l.n);
}

abbrev pub decreases-loop-left : goal.decreases-loop-left
decreases-loop-left g l = l.left
