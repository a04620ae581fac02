-- The output of the program: its exit status, and the bytes for standard output and standard error.
use Rattle.std.specs.Prelude.{ℕ, ◌-◌, ◌^◌, ℤ, pos, negsuc, Bool, ◌&&◌, if◌then◌else◌, List, [], ◌∷◌, ◌++◌, codes, Option, Some, None}
use Rattle.std.specs.Prelude.{Result, Ok, Err}
use Rattle.std.specs.Fmt.{signed_decimal}
use Rattle.std.specs.List.{flat_map, list_all}
use Rattle.std.specs.Ordering.{int_eq}
use Rattle.std.specs.Result.{result_map_both}
use Rattle.std.specs.Str.{bytes_eq}
use Rattle.num_format.specs.Building.{custom_format}
use Rattle.num_format.specs.Format.{FormatData}
use Rattle.num_format.specs.Reading.{denoted}
use Rattle.num_format.specs.Refusal.{Refusal, message_of, refusal_of}
use Rattle.num_format.specs.Table.{table_names}
use Rattle.num_format.specs.Text.{text_of}
use Rattle.num_format.specs.Readable.{is_readable, number_read}
use Rattle.regroup_commands.specs.Locales.{locale_named}
use Rattle.regroup_commands.specs.Request.{Request, request_in}
use Rattle.regroup_commands.specs.Request.Request.{Alike, Check, Custom, Names, Print, Read}

-- whether 1 and -2 ^ 127 parse as i128 values from their texts under the format, and as themselves; by the law `round_trips` of
-- num_format, these two decide it for every number of every integer type
abbrev pub is_read_back : FormatData → Bool
is_read_back format =
    list_all (λ z. is_readable format (text_of format z) && int_eq (denoted format (text_of format z)) z)
    (pos 1 ∷ negsuc (2 ^ 127 - 1) ∷ [])

-- whether the texts of 1000, 100000, 1000000 and -1 are the same under both formats; by the law `alike` of num_format, these four
-- decide it for every number from -2 ^ 127 to 2 ^ 128 - 1
abbrev pub is_alike : FormatData → FormatData → Bool
is_alike f g = list_all (λ z. bytes_eq (text_of f z) (text_of g z)) (pos 1000 ∷ pos 100000 ∷ pos 1000000 ∷ negsuc 0 ∷ [])

-- a text and a newline
abbrev pub line : List ℕ → List ℕ
line text = text ++ 10 ∷ []

-- each text and a newline after it
abbrev pub lines : List (List ℕ) → List ℕ
lines texts = flat_map line texts

-- the line of a number under the format, or the format's error
abbrev pub number_line : Result FormatData Refusal → ℤ → Result (List ℕ) Refusal
number_line (Ok format) number = Ok (line (text_of format number))
number_line (Err error) number = Err error

-- the number that a text denotes under the format, or the format's error
abbrev pub number_read_under : Result FormatData Refusal → List ℕ → Result ℤ Refusal
number_read_under (Ok format) text = number_read format text
number_read_under (Err error) text = Err error

-- the line of a number in plain decimal, or the number's error
abbrev pub decimal_line : Result ℤ Refusal → Result (List ℕ) Refusal
decimal_line (Ok number) = Ok (line (signed_decimal number))
decimal_line (Err error) = Err error

-- the line `true` or `false`
abbrev pub bool_line : Bool → List ℕ
bool_line value = line (if value then codes "true" else codes "false")

-- the line of whether numbers read back under the format, or the format's error
abbrev pub read_back_line : Result FormatData Refusal → Result (List ℕ) Refusal
read_back_line (Ok format) = Ok (bool_line (is_read_back format))
read_back_line (Err error) = Err error

-- the line of whether two formats print alike, or the error of the first format that has one
abbrev pub alike_line : Result FormatData Refusal → Result FormatData Refusal → Result (List ℕ) Refusal
alike_line (Ok f) (Ok g) = Ok (bool_line (is_alike f g))
alike_line (Ok f) (Err error) = Err error
alike_line (Err error) _ = Err error

-- the lines that a request prints, or its error
abbrev pub result_of : Request → Result (List ℕ) Refusal
result_of (Custom separator grouping minus_sign number) = number_line
    (result_map_both (λ format. format) refusal_of (custom_format separator grouping minus_sign)) number
result_of (Print locale number) = number_line (locale_named locale) number
result_of Names = Ok (lines table_names)
result_of (Read locale text) = decimal_line (number_read_under (locale_named locale) text)
result_of (Check locale) = read_back_line (locale_named locale)
result_of (Alike first second) = alike_line (locale_named first) (locale_named second)

-- the exit status, and the bytes for each of the two writers
pub record Output : Type 0 where
  pub status : ℕ
  pub stdout : List ℕ
  pub stderr : List ℕ

-- the output of a result: its lines, or the message of its error
abbrev pub output_of_result : Result (List ℕ) Refusal → Output
output_of_result (Ok text) = record { status = 0; stdout = text; stderr = [] }
output_of_result (Err error) = record { status = 1; stdout = []; stderr = line (message_of error) }

-- the output for words that are no request
abbrev pub usage_output : Output
usage_output = record { status = 2; stdout = []; stderr = line (codes "usage: regroup COMMAND ARGUMENT...") }

-- the output of a request
abbrev pub output_of_request : Request → Output
output_of_request request = output_of_result (result_of request)

-- the output of a request, or the usage if there is none
abbrev pub output_or_usage : Option Request → Output
output_or_usage (Some request) = output_of_request request
output_or_usage None = usage_output

-- the output for the words after the program's name
abbrev pub output_of : List (List ℕ) → Output
output_of words = output_or_usage (request_in words)
