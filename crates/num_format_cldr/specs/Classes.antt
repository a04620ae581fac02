-- The decimal marks and separators of locales.
use Rattle.std.specs.Prelude.{ℕ, List, codes}

-- locales of one class share a decimal mark and a separator
pub data Class : Type 0 where
  A : Class
  B : Class
  C : Class
  D : Class
  E : Class
  F : Class
  G : Class
  H : Class

-- the decimal mark, between the whole part of a number and its fraction
abbrev pub decimal_mark_of : Class → List ℕ
decimal_mark_of A = codes "."
decimal_mark_of B = codes ","
decimal_mark_of C = codes ","
decimal_mark_of D = codes ","
decimal_mark_of E = codes "\u{66b}"
decimal_mark_of F = codes "."
decimal_mark_of G = codes ","
decimal_mark_of H = codes "."

-- the separator, between two groups of digits
abbrev pub separator_of : Class → List ℕ
separator_of A = codes ","
separator_of B = codes "."
separator_of C = codes "\u{a0}"
separator_of D = codes "\u{202f}"
separator_of E = codes "\u{66c}"
separator_of F = codes "’"
separator_of G = codes "’"
separator_of H = codes "\u{a0}"
