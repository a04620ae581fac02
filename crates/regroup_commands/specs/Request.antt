-- What the words of a command line ask for.
use Rattle.std.specs.Prelude.{ℕ, nat_lt, ℤ, Bool, ◌&&◌, if◌then◌else◌, List, [], ◌∷◌, length, map, codes, Option, Some, None}
use Rattle.std.specs.Prelude.{option_and_then}
use Rattle.std.specs.Borrow.{Bor}
use Rattle.std.specs.Char.{is_digit}
use Rattle.std.specs.List.{list_all}
use Rattle.std.specs.Option.{option_map}
use Rattle.std.specs.Str.{bytes_eq}
use Rattle.std.specs.Str.Parse.{signed_digits_value, without_leading_sign}
use Rattle.num_format.specs.Grouping.{Grouping}
use Rattle.num_format.specs.GroupingNames.{grouping_named}
use Rattle.num_format.specs.Readable.{fits_i128}

-- the bytes of each word
abbrev pub texts : List (Bor (List ℕ)) → List (List ℕ)
texts words = map (λ word. word.now) words

-- a command with its arguments
pub data Request : Type 0 where
  Custom : (separator : List ℕ) → Grouping → (minus_sign : List ℕ) → (number : ℤ) → Request
  Print : (locale : List ℕ) → (number : ℤ) → Request
  Names : Request
  Read : (locale text : List ℕ) → Request
  Check : (locale : List ℕ) → Request
  Alike : (first second : List ℕ) → Request

-- one digit or more, and nothing else
abbrev pub is_numeral : List ℕ → Bool
is_numeral text = nat_lt 0 (length text) && list_all (λ c. is_digit c 10) text

-- what std's `parse::<i128>` returns: the number of a numeral, which may have a sign before it, if that number fits
abbrev pub number_in : List ℕ → Option ℤ
number_in text =
    let number = signed_digits_value 10 text in
    if is_numeral (without_leading_sign text) && fits_i128 number then Some number else None

-- `custom` with these arguments
abbrev pub custom_with : List (List ℕ) → Option Request
custom_with (separator ∷ grouping ∷ minus_sign ∷ number ∷ []) =
    option_and_then (λ g. option_map (λ n. Custom separator g minus_sign n) (number_in number)) (grouping_named grouping)
custom_with _ = None

-- `print` with these arguments
abbrev pub print_with : List (List ℕ) → Option Request
print_with (locale ∷ number ∷ []) = option_map (λ n. Print locale n) (number_in number)
print_with _ = None

-- `names` with these arguments
abbrev pub names_with : List (List ℕ) → Option Request
names_with [] = Some Names
names_with _ = None

-- `read` with these arguments
abbrev pub read_with : List (List ℕ) → Option Request
read_with (locale ∷ text ∷ []) = Some (Read locale text)
read_with _ = None

-- `check` with these arguments
abbrev pub check_with : List (List ℕ) → Option Request
check_with (locale ∷ []) = Some (Check locale)
check_with _ = None

-- `alike` with these arguments
abbrev pub alike_with : List (List ℕ) → Option Request
alike_with (first ∷ second ∷ []) = Some (Alike first second)
alike_with _ = None

-- the request of the words, if they are a command with its arguments
abbrev pub request_in : List (List ℕ) → Option Request
request_in [] = None
request_in (command ∷ arguments) =
    if bytes_eq command (codes "custom") then custom_with arguments
    else (if bytes_eq command (codes "print") then print_with arguments
    else (if bytes_eq command (codes "names") then names_with arguments
    else (if bytes_eq command (codes "read") then read_with arguments
    else (if bytes_eq command (codes "check") then check_with arguments
    else (if bytes_eq command (codes "alike") then alike_with arguments else None)))))
