-- Examples of what a builder builds, each proved by computing it.
use Rattle.std.proofs.Common.{◌≡◌, List, [], ◌∷◌, refl}
use Rattle.std.specs.Prelude.{codes, fold, Result, Ok, Err}
use Rattle.num_format_text.specs.declared.grouping.Grouping.TheVariants.{Standard, Indian}
use Rattle.num_format_text.specs.declared.error.Error.{Error}
use Rattle.num_format_text.specs.declared.error_kind.ErrorKind.TheVariants.{Capacity}
use Rattle.num_format_text.specs.English.{english, english_with}
use Rattle.num_format_text.specs.Format.{FormatData}
use Rattle.num_format_custom.specs.Building.{Call, after_call, built, choices_of, SetDecimal, SetFormat, SetGrouping, SetMinusSign}
use Rattle.num_format_custom.specs.Building.{SetSeparator}

-- what a builder builds after calls
abbrev built_by : List Call → Result FormatData Error
built_by calls = built (fold after_call (choices_of english) calls)

-- the separator was refused before the decimal mark, and `build` looks at the decimal mark first
first_error_in_order : built_by (SetSeparator (codes "123456789") ∷ SetDecimal (codes "1234567890") ∷ []) ≡ Err (Capacity 10 8)
first_error_in_order = refl

good_values_replace_errors : built_by (SetSeparator (codes "123456789") ∷ SetDecimal (codes "1234567890") ∷ SetDecimal (codes ".")
    ∷ SetSeparator (codes ",") ∷ []) ≡ Ok english
good_values_replace_errors = refl

minus_sign_before_separator : built_by (SetSeparator (codes "123456789") ∷ SetGrouping Standard ∷ SetMinusSign (codes "1234567890") ∷ [])
    ≡ Err (Capacity 10 8)
minus_sign_before_separator = refl

a_format_replaces_errors : built_by (SetSeparator (codes "123456789") ∷ SetFormat (english_with Indian [] []) ∷ [])
    ≡ Ok (english_with Indian [] [])
a_format_replaces_errors = refl
