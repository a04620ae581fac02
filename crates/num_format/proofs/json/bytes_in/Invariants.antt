use Rattle.std.proofs.Common.{◌≡◌, ◌++◌, drop, option_map}
use Rattle.arrayvec.specs.ArrayVec.{array_vec_len}
use Rattle.serde_json.specs.View.{items_view}
use Rattle.num_format.specs.Json.{bytes_in}
use Rattle.num_format.proofs.json.bytes_in.Given as goal

abbrev pub invariant-loop-item : goal.invariant-loop-item
invariant-loop-item l =
    (array_vec_len l.bytes ≡ l.item-index)
    × (bytes_in (items_view l.items) ≡ option_map (λ rest. l.bytes.items ++ rest) (bytes_in (items_view (drop l.item-index l.items))))
