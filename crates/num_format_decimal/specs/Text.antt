-- The text of a decimal under a format.
use Rattle.std.specs.Prelude.{ℕ, ◌/◌, ◌^◌, unsigned_abs, nat_lt, List, [], ◌++◌, if◌then◌else◌}
use Rattle.std.specs.Int.{is_negative}
use Rattle.num_format_text.specs.Format.{FormatData}
use Rattle.num_format_int.specs.Groups.{last_digits, plain}
use Rattle.num_format_int.specs.Text.{body_of}
use Rattle.num_format_decimal.specs.FixedPoint.{FixedPoint}

-- the decimal mark, where there are decimals
abbrev pub mark_at : FormatData → (scale : ℕ) → List ℕ
mark_at f scale = if nat_lt 0 scale then f.decimal else []

-- the decimals of n, and the mark before them
abbrev pub decimals_of : FormatData → (n scale : ℕ) → List ℕ
decimals_of f n scale = mark_at f scale ++ plain (last_digits scale n)

-- the digits of n before so many decimals, grouped as the format says, and these
abbrev pub unsigned_text : FormatData → (n scale : ℕ) → List ℕ
unsigned_text f n scale = body_of f (n / 10 ^ scale) ++ decimals_of f n scale

-- the minus sign of negative units, and the text of their absolute value
abbrev pub decimal_text : FormatData → FixedPoint → List ℕ
decimal_text f d = (if is_negative d.units then f.minus_sign else []) ++ unsigned_text f (unsigned_abs d.units) d.scale
