-- Classes of characters that people type for one another, by code point.
use Rattle.std.specs.Prelude.{if◌then◌else◌, ℕ, Bool, ◌||◌, ◌==◌, Option, Some, None}
use Rattle.std.specs.Int.{is_in_range}
use Rattle.num_format_typed.specs.declared.classes.Class.{Class}
use Rattle.num_format_typed.specs.declared.classes.Class.TheVariants.{Space, Apostrophe, Comma, Point, Minus, Plus, Direction, End}

-- spaces: U+0020, U+00A0, U+2000 to U+200A, U+202F, U+205F and U+3000
abbrev pub is_space : ℕ → Bool
is_space c = c == 0x20 || c == 0xA0 || is_in_range 0x2000 0x200A c || c == 0x202F || c == 0x205F || c == 0x3000

-- marks of the direction of writing, but not the overrides, which show 123 as 321
abbrev pub is_direction : ℕ → Bool
is_direction c = c == 0x61C || is_in_range 0x200E 0x200F c || is_in_range 0x202A 0x202C c || is_in_range 0x2066 0x2069 c

-- a character is of a class; 9, 10 and 13 are the tab, the line feed and the carriage return
abbrev pub is_of : Class → ℕ → Bool
is_of Space c = is_space c
is_of Apostrophe c = c == 0x27 || c == 0x60 || c == 0xB4 || c == 0x2BC || is_in_range 0x2018 0x2019 c || c == 0xFF07
is_of Comma c = c == 0x2C || c == 0xFE50 || c == 0xFF0C
is_of Point c = c == 0x2E || c == 0xFE52 || c == 0xFF0E
is_of Minus c = c == 0x2D || is_in_range 0x2010 0x2013 c || c == 0x2212 || c == 0xFE63 || c == 0xFF0D
is_of Plus c = c == 0x2B || c == 0xFE62 || c == 0xFF0B
is_of Direction c = is_direction c
is_of End c = is_space c || is_direction c || c == 9 || c == 10 || c == 13

-- the class of a character that a separator or a decimal mark may have
abbrev pub class_of : ℕ → Option Class
class_of c =
    if is_of Comma c then Some Comma
    else if is_of Point c then Some Point
    else if is_of Space c then Some Space
    else if is_of Apostrophe c then Some Apostrophe
    else None
