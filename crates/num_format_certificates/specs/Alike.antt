-- Formats that print numbers alike.
use Rattle.std.specs.Prelude.{◌≡◌, ◌-◌, ◌^◌, ℤ, pos, negsuc, ◌≤ℤ◌}
use Rattle.num_format_text.specs.Format.{FormatData}
use Rattle.num_format_int.specs.Text.{text_of}

-- two formats print alike each number from -2 ^ 127 to 2 ^ 128 - 1, the lowest and the highest value of the eighteen integer types
pub record Alike (f g : FormatData) : Type 0 where
  pub same : (z : ℤ) → negsuc (2 ^ 127 - 1) ≤ℤ z → z ≤ℤ pos (2 ^ 128 - 1) → text_of f z ≡ text_of g z

-- two formats print a number alike
abbrev pub PrintsAlike : FormatData → FormatData → ℤ → Type 0
PrintsAlike f g z = text_of f z ≡ text_of g z
