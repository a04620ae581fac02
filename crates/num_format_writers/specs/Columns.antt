-- How long a text is, and a text filled up to a width.
use Rattle.std.specs.Prelude.{ℕ, ◌+◌, ◌-◌, ◌*◌, ◌/◌, ℤ, unsigned_abs, encode_utf8, List, ◌++◌, length, Option, None, Some, unwrap_or}
use Rattle.std.specs.Prelude.{if◌then◌else◌}
use Rattle.std.specs.Int.{is_negative}
use Rattle.std.specs.Fmt.{char_count}
use Rattle.std.specs.List.{repeat}
use Rattle.std.specs.declared.fmt.Alignment.{Alignment}
use Rattle.std.specs.declared.fmt.Alignment.TheVariants.{Left, Center, Right}
use Rattle.num_format_text.specs.declared.grouping.Grouping.{Grouping}
use Rattle.num_format_int.specs.Digits.{digits}
use Rattle.num_format_int.specs.Grouped.{separators}

-- how many of n fill characters stand before a text: none on the left, half in the center, and all on the right, or if no side is asked for
abbrev pub fill_before : Option Alignment → ℕ → ℕ
fill_before (Some Left) n = 0
fill_before (Some Center) n = n / 2
fill_before (Some Right) n = n
fill_before None n = n

-- the text, with as many fill characters round it as it has characters fewer than the width
abbrev pub filled : Option ℕ → Option Alignment → (fill : ℕ) → List ℕ → List ℕ
filled width side fill text =
    let missing = unwrap_or width 0 - char_count text in
    let before = fill_before side missing in
    repeat before (encode_utf8 fill) ++ (text ++ repeat (missing - before) (encode_utf8 fill))

-- the size of the text of a number, where the minus sign and a separator have these sizes, and a digit has 1
abbrev pub text_size : Grouping → ℤ → (minus_sign separator : ℕ) → ℕ
text_size grouping z minus_sign separator =
    let count = length (digits (unsigned_abs z)) in
    (if is_negative z then minus_sign else 0) + (count + separators grouping count * separator)
