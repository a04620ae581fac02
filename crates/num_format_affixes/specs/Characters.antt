-- The characters that numbers have, and those that are typed for them.
use Rattle.std.specs.Prelude.{ℕ, Bool, ◌||◌, ◌==◌}
use Rattle.std.specs.Char.{is_ascii_whitespace}
use Rattle.std.specs.Char.Unicode.Numeric.{is_numeric}
use Rattle.std.specs.Int.{is_in_range}

-- signs: plus and minus signs, hyphens, dashes no wider than a digit, and the parentheses of accountants
abbrev pub is_sign : ℕ → Bool
is_sign c =
    is_in_range 0x28 0x29 c || c == 0x2B || c == 0x2D || is_in_range 0x2010 0x2013 c || c == 0x2212 || is_in_range 0xFE62 0xFE63 c
    || c == 0xFF0B || c == 0xFF0D

-- what stands between digits and is seen: commas, points and apostrophes, of locales and of keyboards
abbrev pub is_mark : ℕ → Bool
is_mark c =
    c == 0x27 || c == 0x2C || c == 0x2E || c == 0x60 || c == 0xB4 || c == 0x2BC || is_in_range 0x66B 0x66C c || is_in_range 0x2018 0x2019 c
    || c == 0xFE50 || c == 0xFE52 || c == 0xFF07 || c == 0xFF0C || c == 0xFF0E

-- blanks: ASCII whitespace, and the spaces of Unicode but for the one of Ogham
abbrev pub is_blank : ℕ → Bool
is_blank c = is_ascii_whitespace c || c == 0xA0 || is_in_range 0x2000 0x200A c || c == 0x202F || c == 0x205F || c == 0x3000

-- marks of the direction of writing, which some minus signs have
abbrev pub is_direction : ℕ → Bool
is_direction c = c == 0x61C || is_in_range 0x200E 0x200F c || is_in_range 0x202A 0x202C c || is_in_range 0x2066 0x2069 c

-- a character that numbers of locales have, or that is typed for one of these: a digit or another numeric character, or one of the above
abbrev pub is_of_number : ℕ → Bool
is_of_number c = is_numeric c || is_sign c || is_mark c || is_blank c || is_direction c
