use Rattle.std.specs.List.{flat_map}
use Rattle.std.proofs.Common.{take, ◌*◌, ◌≡◌, ◌≤◌}
use Rattle.arrayvec.specs.ArrayString.{array_string_len}
use Rattle.regroup_faults.specs.Quoting.{shown_byte}
use Rattle.regroup_faults.proofs.quoting.shown.Given as goal

-- each byte so far
abbrev pub invariant-loop-byte : goal.invariant-loop-byte
invariant-loop-byte g l =
    (l.message.bytes ≡ flat_map shown_byte (take l.byte-index l.first)) × (array_string_len l.message ≤ 4 * l.byte-index)
