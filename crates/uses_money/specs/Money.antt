-- An amount of money as a decimal.
use Rattle.num_format_decimal.specs.FixedPoint.{FixedPoint, fixed_point}
use Rattle.uses_money.specs.Currency.{decimals_of}
use Rattle.uses_money.specs.declared.money.Money.{Money}

-- the minor units, with as many decimals as the currency has
abbrev pub amount_of : Money → FixedPoint
amount_of m = fixed_point m.minor_units (decimals_of m.currency)
