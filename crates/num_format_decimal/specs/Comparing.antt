-- Equal values are hashed alike.
use Rattle.std.specs.Prelude.{◌≡◌, IsTrue}
use Rattle.std.specs.Cmp.{signed_Decides}
use Rattle.std.specs.Ordering.{int_eq, on}
use Rattle.num_format_decimal.specs.FixedPoint.{FixedPoint}
use Rattle.num_format_decimal.specs.Values.{hash_input_of, value_of}

-- decimals of one value are hashed alike
pub equal_hashed_alike : (a b : FixedPoint) → IsTrue (on value_of int_eq a b) → hash_input_of a ≡ hash_input_of b
equal_hashed_alike a b e = cc ((signed_Decides (value_of a) (value_of b)).0 e)
