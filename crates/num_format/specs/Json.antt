-- Buffers, formats and locales as JSON values: the value of each, and what any value holds.
use Rattle.num_format_text.specs.declared.capacities.TheConstants.{MAX_DEC_LEN, MAX_INF_LEN, MAX_MIN_LEN, MAX_NAN_LEN, MAX_PLUS_LEN}
use Rattle.num_format_text.specs.declared.capacities.TheConstants.{MAX_SEP_LEN}
use Rattle.std.specs.Prelude.{ℕ, nat_lt, nat_le, bytes_eq, codes, List, [], ◌∷◌, ◌++◌, map, find, position, length, is_some, Option, Some}
use Rattle.std.specs.Prelude.{None, ok_or, option_map, option_and_then, Result, Ok, Err, if◌then◌else◌}
use Rattle.std.specs.Fmt.{decimal}
use Rattle.std.specs.Str.{is_utf8}
use Rattle.serde_json.specs.Data.{Data, number, unsigned, string, array, object, Items, no_items, item, member, no_members}
use Rattle.serde_json.specs.Events.{items_len}
use Rattle.serde_json.specs.Find.{get, as_array, as_number, as_object, as_str, as_u64}
use Rattle.serde_json.specs.View.{items_of}
use Rattle.num_format_text.specs.declared.grouping.Grouping.{Grouping}
use Rattle.num_format_text.specs.Format.{FormatData}
use Rattle.num_format_text.specs.GroupingNames.{grouping_name, grouping_named}
use Rattle.num_format_int.specs.declared.buffer.TheConstants.{MAX_BUF_LEN}
use Rattle.num_format_cldr.specs.Table.{table_names}
use Rattle.num_format_locale.specs.Names.{variant_name, variant_name_of}
use Rattle.num_format.specs.declared.json.JsonFault.{JsonFault}
use Rattle.num_format.specs.declared.json.JsonFault.TheVariants as fault

-- a fault as clauses compare it; a key is the list of its bytes
pub data Fault : Type 0 where
  NotArray : Fault
  TooLarge : Fault
  NotByte : Fault
  NotUtf8 : Fault
  NotObject : Fault
  Missing : List ℕ → Fault
  WrongKind : List ℕ → Fault
  TooLong : List ℕ → Fault
  NotText : Fault
  NoSuchLocale : Fault

-- the `Fault` of a `JsonFault`
abbrev pub fault_of : JsonFault → Fault
fault_of fault.NotArray = NotArray
fault_of fault.TooLarge = TooLarge
fault_of fault.NotByte = NotByte
fault_of fault.NotUtf8 = NotUtf8
fault_of fault.NotObject = NotObject
fault_of (fault.Missing key) = Missing key.now
fault_of (fault.WrongKind key) = WrongKind key.now
fault_of (fault.TooLong key) = TooLong key.now
fault_of fault.NotText = NotText
fault_of fault.NoSuchLocale = NoSuchLocale

-- the message of a fault
abbrev pub message_of : Fault → List ℕ
message_of NotArray = codes "the value is no array"
message_of TooLarge = codes "the array has more than " ++ (decimal MAX_BUF_LEN ++ codes " items")
message_of NotByte = codes "an item of the array is no byte"
message_of NotUtf8 = codes "the bytes in the array are not UTF-8"
message_of NotObject = codes "the value is no object"
message_of (Missing key) = codes "the object lacks the key " ++ key
message_of (WrongKind key) = codes "the value has the wrong kind at the key " ++ key
message_of (TooLong key) = codes "the text is too long at the key " ++ key
message_of NotText = codes "the value is no text"
message_of NoSuchLocale = codes "the text is the name of no locale"

-- the result of a call, with the `Fault` of its error
abbrev pub outcome_of : {X : Type 0} → Result X JsonFault → Result X Fault
outcome_of (Ok x) = Ok x
outcome_of (Err fault) = Err (fault_of fault)

-- what follows from the value of a result, or the fault of the result
abbrev pub and_then : {X Y : Type 0} → Result X Fault → (X → Result Y Fault) → Result Y Fault
and_then (Ok x) next = next x
and_then (Err fault) next = Err fault

-- the JSON value of a buffer with this text: an array of the bytes
abbrev pub buffer_json : List ℕ → Data
buffer_json text = array (items_of (map (λ byte. number (unsigned byte)) text))

-- the byte that a value is, if it is a whole number below 256
abbrev pub byte_in : Data → Option ℕ
byte_in d = option_and_then (λ n. if nat_lt n 256 then Some n else None) (option_and_then as_u64 (as_number d))

-- the bytes that the items are, if each of them is one
abbrev pub bytes_in : Items → Option (List ℕ)
bytes_in no_items = Some []
bytes_in (item d ds) = option_and_then (λ byte. option_map (λ bytes. byte ∷ bytes) (bytes_in ds)) (byte_in d)

-- the text of the buffer that a value holds, or the first fault
abbrev pub buffer_in : Data → Result (List ℕ) Fault
buffer_in d =
    and_then (ok_or (as_array d) NotArray) (λ items.
    if nat_lt MAX_BUF_LEN (items_len items) then Err TooLarge else
    and_then (ok_or (bytes_in items) NotByte) (λ bytes.
    if is_utf8 bytes then Ok bytes else Err NotUtf8))

-- the JSON value of a format: an object with these seven keys, in the order of their bytes
abbrev pub format_json : FormatData → Data
format_json f = object (
    member (codes "dec") (string f.decimal) (
    member (codes "grp") (string (grouping_name f.grouping)) (
    member (codes "inf") (string f.infinity) (
    member (codes "min") (string f.minus_sign) (
    member (codes "nan") (string f.nan) (
    member (codes "plus") (string f.plus_sign) (
    member (codes "sep") (string f.separator) no_members)))))))

-- the value that an object has at a key
abbrev pub value_at : List ℕ → Data → Result Data Fault
value_at key d = ok_or (get key d) (Missing key)

-- the text that an object has at a key, of at most so many bytes
abbrev pub text_at : List ℕ → ℕ → Data → Result (List ℕ) Fault
text_at key capacity d =
    and_then (value_at key d) (λ value.
    and_then (ok_or (as_str value) (WrongKind key)) (λ text.
    if nat_le (length text) capacity then Ok text else Err (TooLong key)))

-- the grouping whose name an object has at a key
abbrev pub grouping_at : List ℕ → Data → Result Grouping Fault
grouping_at key d =
    and_then (value_at key d) (λ value.
    ok_or (option_and_then grouping_named (as_str value)) (WrongKind key))

-- the data of the format that a value holds, or the first fault; other keys do not matter
abbrev pub format_in : Data → Result FormatData Fault
format_in d = if is_some (as_object d) then
    and_then (text_at (codes "dec") MAX_DEC_LEN d) (λ decimal.
    and_then (grouping_at (codes "grp") d) (λ grouping.
    and_then (text_at (codes "inf") MAX_INF_LEN d) (λ infinity.
    and_then (text_at (codes "min") MAX_MIN_LEN d) (λ minus_sign.
    and_then (text_at (codes "nan") MAX_NAN_LEN d) (λ nan.
    and_then (text_at (codes "plus") MAX_PLUS_LEN d) (λ plus_sign.
    and_then (text_at (codes "sep") MAX_SEP_LEN d) (λ separator. Ok (record {
      decimal = decimal;
      grouping = grouping;
      infinity = infinity;
      minus_sign = minus_sign;
      nan = nan;
      plus_sign = plus_sign;
      separator = separator;
    })))))))) else Err NotObject

-- the JSON value of a locale: the name of its variant
abbrev pub locale_json : ℕ → Data
locale_json place = string (variant_name_of place)

-- the place of the locale whose variant has this name
abbrev pub locale_named : List ℕ → Option ℕ
locale_named text = position (λ name. bytes_eq text (variant_name name)) table_names

-- the place of the locale that a value holds, or the first fault
abbrev pub locale_in : Data → Result ℕ Fault
locale_in d =
    and_then (ok_or (as_str d) NotText) (λ text.
    ok_or (locale_named text) NoSuchLocale)
