-- What a typed text stands for, and what parsing it returns.
use Rattle.std.specs.Prelude.{◌≡◌, ℕ, ℤ, ◌+◌, ◌-◌, ◌<◌, ◌≤◌, nat_eq, Bool, true, false, ◌&&◌, ◌||◌, ◌==◌, List, [], ◌∷◌, ◌++◌}
use Rattle.std.specs.Prelude.{Contains, length, drop, if◌then◌else◌, Option, Some, None, unwrap_or, Result, Ok, Err, MatchResult, IsUtf8}
use Rattle.std.specs.Prelude.{codes}
use Rattle.std.specs.Int.{is_in_range}
use Rattle.std.specs.List.{find, list_all, list_any, starts_with}
use Rattle.std.specs.Option.{option_or}
use Rattle.std.specs.Str.{chars, encode_utf8_all}
use Rattle.num_format_text.specs.declared.capacities.TheConstants.{MAX_DEC_LEN, MAX_MIN_LEN, MAX_SEP_LEN}
use Rattle.num_format_text.specs.Format.{FormatData}
use Rattle.num_format_int.specs.Grouped.{printed_separator}
use Rattle.num_format_int.specs.Kind.{Kind}
use Rattle.num_format_parsing.specs.Strict.{IsUnambiguous, ParsesStrictly}
use Rattle.num_format_parsing.specs.Symbols.{locale_separators, locale_signs}
use Rattle.num_format_parsing.specs.declared.error.StrictError.{StrictError}
use Rattle.num_format_parsing.specs.declared.error.StrictError.TheVariants as strict
use Rattle.num_format_decimal.specs.FixedPoint.{FixedPoint}
use Rattle.num_format_decimal.specs.Marks.{MarksDecimals}
use Rattle.num_format_decimal.specs.Parsing.{DecimalResult}
use Rattle.num_format_decimal.specs.Rounded.{CanRescale, CannotRescale, rescaled}
use Rattle.num_format_decimal.specs.Ways.{Way, placed}
use Rattle.num_format_decimal.specs.declared.rounding.Rounding.TheVariants.{Exact}
use Rattle.num_format_decimal.specs.declared.buffer.TheConstants.{MAX_DECIMAL_LEN}
use Rattle.num_format_decimal.specs.declared.parsing.ParseAtScaleError.{ParseAtScaleError}
use Rattle.num_format_decimal.specs.declared.parsing.ParseAtScaleError.TheVariants as at_scale
use Rattle.num_format_rewriting.specs.Rewriting.{bytes_within, images}
use Rattle.num_format_typed.specs.Classes.{class_of, is_of}
use Rattle.num_format_typed.specs.Trimming.{without_ends, without_front}
use Rattle.num_format_typed.specs.declared.classes.Class.{Class}
use Rattle.num_format_typed.specs.declared.classes.Class.TheVariants.{Minus, Plus, Direction, End}
use Rattle.num_format_typed.specs.declared.error.TypedError.{TypedError}
use Rattle.num_format_typed.specs.declared.error.TypedError.TheVariants.{TooLong, Number}

-- the characters of a printed separator and a mark that stand for a class: the first one of the class
abbrev pub own_char : (separator mark : List ℕ) → Class → Option ℕ
own_char separator mark k = option_or (find (is_of k) (chars separator)) (find (is_of k) (chars mark))

-- the character itself, if it is of no class, or else the one of its class in the separator or the mark, if they have one
abbrev pub own_or : (separator mark : List ℕ) → Option Class → ℕ → ℕ
own_or separator mark (Some k) c = unwrap_or (own_char separator mark k) c
own_or separator mark None c = c

abbrev pub put : (separator mark : List ℕ) → ℕ → ℕ
put separator mark c = own_or separator mark (class_of c) c

-- each character of a text is put for itself
abbrev pub is_own : (separator mark : List ℕ) → List ℕ → Bool
is_own separator mark t = list_all (λ c. put separator mark c == c) (chars t)

-- a text has a character of a class
abbrev pub has_class : Class → List ℕ → Bool
has_class k t = list_any (is_of k) (chars t)

-- a character is of a class of which the separator or the mark has one, for which it could be typed
abbrev pub is_shared_in : (separator mark : List ℕ) → Option Class → Bool
is_shared_in separator mark (Some k) = has_class k separator || has_class k mark
is_shared_in separator mark None = false

abbrev pub has_shared : (separator mark : List ℕ) → List ℕ → Bool
has_shared separator mark t = list_any (λ c. is_shared_in separator mark (class_of c)) (chars t)

-- the separator that a format prints
abbrev pub separator_of : FormatData → List ℕ
separator_of f = printed_separator f.grouping f.separator

-- the minus sign without marks of direction at its ends
abbrev pub core_of : FormatData → List ℕ
core_of f = without_ends (is_of Direction) f.minus_sign

-- the first character of a text is of a class
abbrev pub first_is : Class → List ℕ → Bool
first_is k [] = false
first_is k (c ∷ cs) = is_of k c

abbrev pub begins_with : Class → List ℕ → Bool
begins_with k t = first_is k (chars t)

-- what people type under a format has one meaning: strict parsing takes the format; its separator and its mark have at most one character
-- of each class, so each stands for itself; its minus sign begins with no character that counts for nothing; and none of its characters
-- could be typed for one of the separator or the mark, so that rewriting makes no sign
pub record IsTypable (f : FormatData) : Type 0 where
  pub unambiguous : IsUnambiguous f
  pub separator : is_own (separator_of f) f.decimal (separator_of f) ≡ true
  pub mark : is_own (separator_of f) f.decimal f.decimal ≡ true
  pub given : ¬ (core_of f ≡ [])
  pub seen : begins_with End (core_of f) ≡ false
  pub no_plus : begins_with Plus (core_of f) ≡ false
  pub apart : has_shared (separator_of f) f.decimal (core_of f) ≡ false

-- the symbols of a format are UTF-8, and no longer than there is room for, as those of each format are
pub record HasSymbols (f : FormatData) : Type 0 where
  pub sign : IsUtf8 f.minus_sign
  pub separator : IsUtf8 f.separator
  pub mark : IsUtf8 f.decimal
  pub sign_len : length f.minus_sign ≤ MAX_MIN_LEN
  pub separator_len : length f.separator ≤ MAX_SEP_LEN
  pub mark_len : length f.decimal ≤ MAX_DEC_LEN

-- the decimal marks of locales, and their separators and those of keyboards
abbrev pub usual_marks : List (List ℕ)
usual_marks = codes "." ∷ codes "," ∷ (0xD9 ∷ 0xAB ∷ []) ∷ []

abbrev pub ascii_separators : List (List ℕ)
ascii_separators = codes "'" ∷ codes " " ∷ [] ∷ []

abbrev pub usual_separators : List (List ℕ)
usual_separators = usual_marks ++ (locale_separators ++ ascii_separators)

pub record HasUsualSymbols (f : FormatData) : Type 0 where
  pub sign : Contains locale_signs f.minus_sign
  pub mark : Contains usual_marks f.decimal
  pub separator : Contains usual_separators f.separator

-- a text without what counts for nothing at its ends
abbrev pub trimmed : List ℕ → List ℕ
trimmed t = without_ends (is_of End) t

-- a trimmed text begins with a minus sign: that of the format, or a character of the class
abbrev pub has_minus : FormatData → List ℕ → Bool
has_minus f t = starts_with nat_eq t (core_of f) || begins_with Minus t

-- a trimmed text without its sign
abbrev pub unsigned : FormatData → List ℕ → List ℕ
unsigned f t =
    if starts_with nat_eq t (core_of f) then drop (length (core_of f)) t
    else if begins_with Minus t || begins_with Plus t then encode_utf8_all (drop 1 (chars t))
    else t

-- what follows the sign of a trimmed text, and marks of direction after it
abbrev pub body_of : FormatData → List ℕ → List ℕ
body_of f t = without_front (is_of Direction) (unsigned f t)

-- a digit 1 to 9
abbrev pub is_nonzero_digit : ℕ → Bool
is_nonzero_digit b = is_in_range 49 57 b

-- the minus sign is written: a trimmed text has one, and its number is not zero; or a second one follows its sign, so that the text is
-- refused
abbrev pub is_signed : FormatData → List ℕ → Bool
is_signed f t = has_minus f t && list_any is_nonzero_digit (body_of f t) || starts_with nat_eq (body_of f t) (core_of f)

abbrev pub sign_of : FormatData → List ℕ → List ℕ
sign_of f t = if is_signed f t then f.minus_sign else []

-- a trimmed text with the format's own minus sign, if there is one, and the format's own characters for those that were typed
abbrev pub rewritten : FormatData → List ℕ → List ℕ
rewritten f t = sign_of f t ++ images (put (separator_of f) f.decimal) (body_of f t)

-- what a typed text stands for
abbrev pub typed_text : FormatData → List ℕ → List ℕ
typed_text f t = rewritten f (trimmed t)

-- a text stands for itself, and is short enough
pub record IsPrinted (f : FormatData) (t : List ℕ) : Type 0 where
  pub utf8 : IsUtf8 t
  pub same : typed_text f t ≡ t
  pub short : length t ≤ MAX_DECIMAL_LEN

-- the place in a text where its body begins
abbrev pub body_start : FormatData → List ℕ → ℕ
body_start f t = (length t - length (without_front (is_of End) t)) + (length (trimmed t) - length (body_of f (trimmed t)))

-- the place in a text of the character for which a place in the typed text stands
abbrev pub place_in : FormatData → List ℕ → ℕ → ℕ
place_in f t at =
    body_start f t + bytes_within (put (separator_of f) f.decimal) (at - length (sign_of f (trimmed t))) (chars (body_of f (trimmed t)))

-- what strict parsing returned, with the places of the given text
abbrev pub map_error : {X E : Type 0} → (E → E) → Result X E → Result X (TypedError E)
map_error place (Ok x) = Ok x
map_error place (Err e) = Err (Number (place e))

-- what parsing returns of a text by the strict parsing that takes such formats, of four: no text is parsed under the format; the bytes are
-- no text; the typed text is too long; or else what strict parsing returns of the typed text. Each is returned exactly if its conditions
-- hold, since these exclude one another
pub data TypedResult {X : Type 0} (Takes : FormatData → Type 0) (parses : FormatData → List ℕ → Result X StrictError → Type 0)
    (f : FormatData) (t : List ℕ) (result : Result X (TypedError StrictError)) : Type 0 where
  format_refused : ¬ (Takes f) → result ≡ Err (Number strict.AmbiguousFormat) → TypedResult Takes parses f t result
  no_text : Takes f → ¬ (IsUtf8 t) → result ≡ Err (Number strict.NotUtf8) → TypedResult Takes parses f t result
  too_long : Takes f → IsUtf8 t → MAX_DECIMAL_LEN < length (typed_text f t) → result ≡ Err TooLong → TypedResult Takes parses f t result
  typed : Takes f → IsUtf8 t → length (typed_text f t) ≤ MAX_DECIMAL_LEN → (parsed : Result X StrictError)
      → parses f (typed_text f t) parsed → result ≡ map_error (placed (place_in f t)) parsed → TypedResult Takes parses f t result

-- what parsing returns of a text as a whole number of a kind, and as a decimal
abbrev pub ParsesTyped : {X : Type 0} → Kind → (X → ℤ) → FormatData → List ℕ → Result X (TypedError StrictError) → Type 0
ParsesTyped k value = TypedResult IsTypable (ParsesStrictly k value)

abbrev pub TypedDecimalResult : FormatData → List ℕ → Result FixedPoint (TypedError StrictError) → Type 0
TypedDecimalResult = TypedResult (λ f. IsTypable f × MarksDecimals f) DecimalResult

-- why a decimal has no such scale
abbrev pub IsScaleCause : FixedPoint → (scale : ℕ) → TypedError ParseAtScaleError → Type 0
IsScaleCause d scale (Number (at_scale.Rescale e)) = CannotRescale Exact d scale e
IsScaleCause d scale e = ⊥

-- what is returned of a decimal at a scale
abbrev pub RescaleResult : FixedPoint → (scale : ℕ) → Result FixedPoint (TypedError ParseAtScaleError) → Type 0
RescaleResult d scale result = MatchResult result (λ x. CanRescale Exact d scale × (x ≡ rescaled Exact d scale)) (IsScaleCause d scale)

-- why a text is refused as a decimal of any scale
abbrev pub at_any_scale : TypedError StrictError → TypedError ParseAtScaleError
at_any_scale TooLong = TooLong
at_any_scale (Number e) = Number (at_scale.Parse e)

-- what parsing returns of a text as a decimal of a scale: the decimal, at the scale
pub record TypedAtScaleResult (f : FormatData) (t : List ℕ) (scale : ℕ)
    (result : Result FixedPoint (TypedError ParseAtScaleError)) : Type 0 where
  pub parsed : Result FixedPoint (TypedError StrictError)
  pub decimal : TypedDecimalResult f t parsed
  pub at_scale : MatchResult parsed (λ d. RescaleResult d scale result) (λ e. result ≡ Err (at_any_scale e))

-- parsing texts as people type them: of a whole number of a kind, of a decimal, and of a decimal of a scale
abbrev pub typed_numbers : {X : Type 0} → Kind → (X → ℤ) → Way X (TypedError StrictError)
typed_numbers k value = record {
  Takes = IsTypable;
  ambiguous = Number strict.AmbiguousFormat;
  Returns = ParsesTyped k value;
}

abbrev pub typed_decimals : Way FixedPoint (TypedError StrictError)
typed_decimals = record {
  Takes = λ f. IsTypable f × MarksDecimals f;
  ambiguous = Number strict.AmbiguousFormat;
  Returns = TypedDecimalResult;
}

abbrev pub typed_at_scale : (scale : ℕ) → Way FixedPoint (TypedError ParseAtScaleError)
typed_at_scale scale = record {
  Takes = λ f. IsTypable f × MarksDecimals f;
  ambiguous = Number (at_scale.Parse strict.AmbiguousFormat);
  Returns = λ f t. TypedAtScaleResult f t scale;
}

-- an error of such a way with another place
abbrev pub placed_typed : {E : Type 0} → ((ℕ → ℕ) → E → E) → (ℕ → ℕ) → TypedError E → TypedError E
placed_typed placed place TooLong = TooLong
placed_typed placed place (Number e) = Number (placed place e)

-- the message of an error, where the causes of strict parsing have messages
abbrev pub typed_message_of : {E : Type 0} → (E → Option (List ℕ)) → TypedError E → Option (List ℕ)
typed_message_of message TooLong = Some (codes "The text is too long.")
typed_message_of message (Number e) = message e
