use Rattle.std.proofs.Common.{arith}
use Rattle.num_format_int.proofs.DigitLemmas.{length-digits-le}
use Rattle.num_format_decimal.proofs.buffer.DecimalBuffer.put_unsigned.Goals as goal

pub put_body-requires-clause-fits : goal.put_body-requires-clause-fits
put_body-requires-clause-fits g c =
    omega (arith, c.put_decimals-whole.ensures.room, length-digits-le 20 c.put_decimals-whole.result (omega arith) (omega arith))
