-- The data of the formats that the test module own_format defines.
use Rattle.std.specs.Prelude.{[], codes}
use Rattle.num_format.specs.Grouping.{Grouping}
use Rattle.num_format.specs.English.{english}
use Rattle.num_format.specs.Format.{FormatData}

-- the data of the locale en, but for the grouping, the separator 7 and the minus sign 17
abbrev pub sevens : Grouping → FormatData
sevens g = record english { grouping = g; minus_sign = codes "17"; separator = codes "7" }

-- the data of the locale en with an empty minus sign
abbrev pub without_minus : FormatData
without_minus = record english { minus_sign = [] }
