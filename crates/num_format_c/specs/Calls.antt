-- What the calls of C return and write.
use Rattle.std.specs.Prelude.{◌≡◌, ◌⊎◌, ℕ, ◌+◌, ◌*◌, ◌^◌, ◌<◌, ◌≤◌, ◌==◌, ℤ, pos, negsuc, nat_eq, Bool, not, ◌&&◌, ◌||◌}
use Rattle.std.specs.Prelude.{List, [], ◌∷◌, ◌++◌, length, drop, Option, Some, None, Result, Ok, Err, IfSome, MatchOption, MatchResult}
use Rattle.std.specs.Prelude.{unwrap_or}
use Rattle.std.specs.Prelude.{IsUtf8, if◌then◌else◌}
use Rattle.std.specs.Fmt.{is_char_start}
use Rattle.std.specs.Int.{cast_signed, w128}
use Rattle.std.specs.List.{starts_with}
use Rattle.num_format.specs.Constants.{LEN}
use Rattle.num_format.specs.Data.{locale_data}
use Rattle.num_format.specs.Format.{FormatData}
use Rattle.num_format.specs.Kind.{Kind, kind_of, U8, U16, U32, U64, I8, I16, I32, I64}
use Rattle.num_format.specs.Lookup.{LooksUpTag}
use Rattle.num_format.specs.Names.{Spells, name_of}
use Rattle.num_format.specs.Reading.{Refused, denoted}
use Rattle.num_format.specs.StrictError.{StrictError}
use Rattle.num_format.specs.StrictError.TheVariants as cause
use Rattle.num_format.specs.Text.{text_of}
use Rattle.num_format_decimal.specs.FixedPoint.{FixedPoint, fixed_point}
use Rattle.num_format_decimal.specs.Text.{decimal_text}
use Rattle.num_format_decimal.specs.declared.decimal.TheConstants.{MAX_SCALE}
use Rattle.num_format_decimal.specs.declared.error.DecimalError.{DecimalError}
use Rattle.num_format_decimal.specs.declared.error.DecimalError.TheVariants as rescale
use Rattle.num_format_decimal.specs.declared.parsing.ParseAtScaleError.{ParseAtScaleError}
use Rattle.num_format_decimal.specs.declared.parsing.ParseAtScaleError.TheVariants.{Parse, Rescale}
use Rattle.num_format_decimal.specs.Ways.{Way, placed, placed_at_scale}
use Rattle.num_format_decimal.specs.Ways as ways
use Rattle.num_format_digits.specs.Digits.{digits_named, in_digits, set_numbered}
use Rattle.num_format_digits.specs.Parsing.{ParsesDigits}
use Rattle.num_format_digits.specs.declared.parsing.DigitsError.{DigitsError}
use Rattle.num_format_digits.specs.declared.parsing.DigitsError.TheVariants as digits
use Rattle.num_format_digits.specs.Tags.{TagResult, digits_in}
use Rattle.num_format_digits.specs.declared.tags.UnknownDigits.{UnknownDigits}
use Rattle.num_format_typed.specs.Typed.{placed_typed}
use Rattle.num_format_typed.specs.Typed as typed_ways
use Rattle.num_format_typed.specs.declared.error.TypedError.{TypedError}
use Rattle.num_format_typed.specs.declared.error.TypedError.TheVariants as typed
use Rattle.num_format_c.specs.FormatRef.{Agrees, HasFormat, HasLatin, IsPadded, digits_of, format_of, format_with, grouping_of}
use Rattle.num_format_c.specs.declared.format.NumFormat.{NumFormat}
use Rattle.num_format_c.specs.declared.status.Status.{Status}
use Rattle.num_format_c.specs.declared.status.Status.TheVariants.{BadFormat, TooSmall, NotUtf8, NotANumber, UnknownLocale, TooLong}
use Rattle.num_format_c.specs.declared.status.Status.TheVariants.{BadGrouping, BadBits, Unexpected, NoDigit, Misspelled, OutOfRange}
use Rattle.num_format_c.specs.declared.status.Status.TheVariants.{BadScale, TooManyDecimals, BadLength, BadOffsets, TooManyBytes}
use Rattle.num_format_c.specs.declared.status.Status.TheVariants.{DigitsLost, AmbiguousFormat, BadType, TextTooLong}
use Rattle.num_format_c.specs.declared.status.Status.TheVariants as cross

-- the number by which an error crosses to C; `negsuc n` is the number one below -n
abbrev pub code : Status → ℤ
code BadFormat = negsuc 0
code TooSmall = negsuc 1
code NotUtf8 = negsuc 2
code NotANumber = negsuc 3
code UnknownLocale = negsuc 4
code TooLong = negsuc 5
code BadGrouping = negsuc 6
code BadBits = negsuc 7
code Unexpected = negsuc 8
code NoDigit = negsuc 9
code Misspelled = negsuc 10
code OutOfRange = negsuc 11
code BadScale = negsuc 12
code TooManyDecimals = negsuc 13
code BadLength = negsuc 14
code BadOffsets = negsuc 15
code TooManyBytes = negsuc 16
code DigitsLost = negsuc 17
code AmbiguousFormat = negsuc 18
code BadType = negsuc 19
code TextTooLong = negsuc 20
code cross.UnknownDigits = negsuc 21
code cross.OtherNumeral = negsuc 22

-- the number that a call returns
abbrev pub returned : Result ℤ Status → ℤ
returned (Ok n) = n
returned (Err status) = code status

-- a call fails: it returns the error's number, and what it would have written is as it was
pub record Fails {A : Type 0} (status : Status) (old new : A) (result : ℤ) : Type 0 where
  pub error : result ≡ code status
  pub unchanged : new ≡ old

-- a text is at the start of an array, whose other bytes are as they were, and its length is returned
pub record Receives (text old new : List ℕ) (result : ℤ) : Type 0 where
  pub written : new ≡ text ++ drop (length text) old
  pub returned : result ≡ pos (length text)

-- a text is written into an array that is long enough
pub record Writes (text old new : List ℕ) (result : ℤ) : Type 0 where
  pub whole : length text ≤ length old → Receives text old new result
  pub too_small : length old < length text → Fails TooSmall old new result

-- a text under the format of a struct, in its digits, is written into an array
pub record PrintsText (s : NumFormat) (text : FormatData → List ℕ) (old new : List ℕ) (result : ℤ) : Type 0 where
  pub bad_format : ¬ HasFormat s → Fails BadFormat old new result
  pub printed : HasFormat s → Writes (in_digits (digits_of s) (text (format_of s))) old new result

-- that of a number
abbrev pub Prints : NumFormat → ℤ → (old new : List ℕ) → (result : ℤ) → Type 0
Prints s z = PrintsText s (λ f. text_of f z)

-- and that of a decimal
pub record PrintsDecimal (s : NumFormat) (d : FixedPoint) (old new : List ℕ) (result : ℤ) : Type 0 where
  pub bad_scale : MAX_SCALE < d.scale → Fails BadScale old new result
  pub printed : d.scale ≤ MAX_SCALE → PrintsText s (λ f. decimal_text f d) old new result

-- the length of a text under the format of a struct, in its digits, is returned
pub record ReturnsLength (s : NumFormat) (text : FormatData → List ℕ) (result : ℤ) : Type 0 where
  pub bad_format : ¬ HasFormat s → result ≡ code BadFormat
  pub size : HasFormat s → result ≡ pos (length (in_digits (digits_of s) (text (format_of s))))

-- the length of the text of a decimal under the format of a struct is returned
pub record ReturnsDecimalLength (s : NumFormat) (d : FixedPoint) (result : ℤ) : Type 0 where
  pub bad_scale : MAX_SCALE < d.scale → result ≡ code BadScale
  pub measured : d.scale ≤ MAX_SCALE → ReturnsLength s (λ f. decimal_text f d) result

-- a text is parsed under the format of a struct as a number of the kind
pub record Parses {A : Type 0} (k : Kind) (value : A → ℤ) (s : NumFormat) (text : List ℕ) (result : Result A Status) : Type 0 where
  pub bad_format : ¬ HasLatin s → result ≡ Err BadFormat
  pub not_utf8 : HasLatin s → ¬ IsUtf8 text → result ≡ Err NotUtf8
  pub refused : HasLatin s → IsUtf8 text → Refused k (format_of s) text → result ≡ Err NotANumber
  pub number : HasLatin s → IsUtf8 text → ¬ Refused k (format_of s) text
      → MatchResult result (λ n. value n ≡ denoted (format_of s) text) (λ _. ⊥)

-- the same as a number of the kind of so many bits, if there is one
abbrev pub ParsesBits : {A : Type 0} → Option Kind → (A → ℤ) → NumFormat → (text : List ℕ) → (result : Result A Status) → Type 0
ParsesBits kind value s text result = MatchOption kind (result ≡ Err BadBits) (λ k. Parses k value s text result)

-- what parsing returned is written over something else, or its error is returned
abbrev pub Stores : {A : Type 0} → Result A Status → (old new : A) → (result : ℤ) → Type 0
Stores r old new result = MatchResult r (λ x. (result ≡ pos 0) × (new ≡ x)) (λ status. Fails status old new result)

-- a text is parsed, which returns what `Parsed` says, and that is written over something else
pub record ParsesInto {A : Type 0} (Parsed : Result A Status → Type 0) (old new : A) (result : ℤ) : Type 0 where
  pub returned : Result A Status
  pub parsed : Parsed returned
  pub stored : Stores returned old new result

-- a way of parsing, an error of it with another place, and how an error crosses to C, as a status, and the place of the unexpected byte or
-- else the old one
pub record Parsing (X E : Type 0) : Type 1 where
  pub way : Way X E
  pub placed : (ℕ → ℕ) → E → E
  pub status : E → Status
  pub place : E → ℕ → ℕ

-- the errors of strict parsing
abbrev pub status_of : StrictError → Status
status_of cause.AmbiguousFormat = AmbiguousFormat
status_of cause.NotUtf8 = NotUtf8
status_of (cause.Unexpected at) = Unexpected
status_of cause.NoDigit = NoDigit
status_of cause.TooManyDecimals = TooManyDecimals
status_of cause.Misspelled = Misspelled
status_of cause.OutOfRange = OutOfRange

abbrev pub place_of : StrictError → ℕ → ℕ
place_of (cause.Unexpected at) old = at
place_of _ old = old

-- those of scales, and of decimals of a scale
abbrev pub rescale_status_of : DecimalError → Status
rescale_status_of rescale.ScaleTooLarge = BadScale
rescale_status_of rescale.DigitsLost = DigitsLost
rescale_status_of rescale.OutOfRange = OutOfRange

abbrev pub at_scale_status_of : ParseAtScaleError → Status
at_scale_status_of (Parse e) = status_of e
at_scale_status_of (Rescale e) = rescale_status_of e

abbrev pub at_scale_place_of : ParseAtScaleError → ℕ → ℕ
at_scale_place_of (Parse e) old = place_of e old
at_scale_place_of (Rescale e) old = old

-- those of typed texts
abbrev pub typed_status_of : {E : Type 0} → (E → Status) → TypedError E → Status
typed_status_of status typed.TooLong = TextTooLong
typed_status_of status (typed.Number e) = status e

abbrev pub typed_place_of : {E : Type 0} → (E → ℕ → ℕ) → TypedError E → ℕ → ℕ
typed_place_of place typed.TooLong old = old
typed_place_of place (typed.Number e) old = place e old

-- those of texts in a digit set
abbrev pub digits_status_of : {E : Type 0} → (E → Status) → DigitsError E → Status
digits_status_of status (digits.OtherNumeral at) = cross.OtherNumeral
digits_status_of status digits.TooLong = TextTooLong
digits_status_of status (digits.Number e) = status e

abbrev pub digits_place_of : {E : Type 0} → (E → ℕ → ℕ) → DigitsError E → ℕ → ℕ
digits_place_of place (digits.OtherNumeral at) old = at
digits_place_of place digits.TooLong old = old
digits_place_of place (digits.Number e) old = place e old

-- such a way, by its parts
abbrev pub crossing : {X E : Type 0} → Way X E → ((ℕ → ℕ) → E → E) → (E → Status) → (E → ℕ → ℕ) → Parsing X E
crossing way placed status place = record { way = way; placed = placed; status = status; place = place }

-- numbers of a kind, decimals, and decimals of a scale, as they are printed and as people type them
abbrev pub numbers : {X : Type 0} → Kind → (X → ℤ) → Parsing X StrictError
numbers k value = crossing (ways.numbers k value) placed status_of place_of

abbrev pub typed_numbers : {X : Type 0} → Kind → (X → ℤ) → Parsing X (TypedError StrictError)
typed_numbers k value = crossing (typed_ways.typed_numbers k value) (placed_typed placed) (typed_status_of status_of) (typed_place_of place_of)

abbrev pub decimals : Parsing FixedPoint StrictError
decimals = crossing ways.decimals placed status_of place_of

abbrev pub typed_decimals : Parsing FixedPoint (TypedError StrictError)
typed_decimals = crossing typed_ways.typed_decimals (placed_typed placed) (typed_status_of status_of) (typed_place_of place_of)

abbrev pub at_scale : (scale : ℕ) → Parsing FixedPoint ParseAtScaleError
at_scale scale = crossing (ways.at_scale scale) placed_at_scale at_scale_status_of at_scale_place_of

abbrev pub typed_at_scale : (scale : ℕ) → Parsing FixedPoint (TypedError ParseAtScaleError)
typed_at_scale scale = crossing (typed_ways.typed_at_scale scale) (placed_typed placed_at_scale) (typed_status_of at_scale_status_of)
    (typed_place_of at_scale_place_of)

-- a result with the status in place of the error, and the place after it
abbrev pub crossed : {X E : Type 0} → (E → Status) → Result X E → Result X Status
crossed status (Ok x) = Ok x
crossed status (Err e) = Err (status e)

abbrev pub place_after : {X E : Type 0} → (E → ℕ → ℕ) → Result X E → ℕ → ℕ
place_after place (Ok x) old = old
place_after place (Err e) old = place e old

-- what parsing returned crosses to C
pub record Crosses {X E : Type 0} (status : E → Status) (place : E → ℕ → ℕ) (r : Result X E) (old new : ℕ) (result : Result X Status)
    : Type 0 where
  pub returned : result ≡ crossed status r
  pub written : new ≡ place_after place r old

-- a text is parsed under the format of a struct, if it is one by which no text can be misread, in its digits, and the place of an
-- unexpected byte is written; a text that is not UTF-8 is refused as where the digits are 0 to 9
pub record Gets {X E : Type 0} (p : Parsing X E) (s : NumFormat) (text : List ℕ) (old new : ℕ) (result : Result X Status) : Type 0 where
  pub bad_format : ¬ HasFormat s → (result ≡ Err BadFormat) × (new ≡ old)
  pub ambiguous : HasFormat s → ¬ p.way.Takes (format_of s) → (result ≡ Err AmbiguousFormat) × (new ≡ old)
  pub parsed : HasFormat s → p.way.Takes (format_of s) → (digits_of s ≡ 48) ⊎ (¬ IsUtf8 text) → (r : Result X E)
      × p.way.Returns (format_of s) text r × Crosses p.status p.place r old new result
  pub in_digits : HasFormat s → p.way.Takes (format_of s) → ¬ (digits_of s ≡ 48) → IsUtf8 text → (r : Result X (DigitsError E))
      × ParsesDigits p.placed (p.way.Returns (format_of s)) (digits_of s) text r
      × Crosses (digits_status_of p.status) (digits_place_of p.place) r old new result

-- the same as a number of the kind of so many bits, if there is one
abbrev pub GetsBits : {X : Type 0} → Option Kind → (X → ℤ) → NumFormat → (text : List ℕ) → (old new : ℕ) → (result : Result X Status)
    → Type 0
GetsBits kind value s text old new result =
    MatchOption kind ((result ≡ Err BadBits) × (new ≡ old)) (λ k. Gets (numbers k value) s text old new result)

-- what is returned is stored
abbrev pub Into : {X E : Type 0} → Parsing X E → NumFormat → (text : List ℕ) → (old new : X) → (at_old at_new : ℕ) → (result : ℤ) → Type 0
Into p s text old new at_old at_new result = ParsesInto (Gets p s text at_old at_new) old new result

-- a text begins with a mark of the direction of writing: U+061C, U+200E or U+200F
abbrev pub begins_with_mark : List ℕ → Bool
begins_with_mark t =
    starts_with nat_eq t (0xD8 ∷ 0x9C ∷ []) || starts_with nat_eq t (0xE2 ∷ 0x80 ∷ 0x8E ∷ [])
    || starts_with nat_eq t (0xE2 ∷ 0x80 ∷ 0x8F ∷ [])

-- the columns that a text takes: one for each byte that begins a character, but none for such a mark
abbrev pub columns_of : List ℕ → ℕ
columns_of [] = 0
columns_of (b ∷ t) = (if is_char_start b && not (begins_with_mark (b ∷ t)) then 1 else 0) + columns_of t

-- an unsigned number of 128 bits, by its halves
abbrev pub unsigned_wide : ℕ → ℕ → ℕ
unsigned_wide low high = low + high * 2 ^ 64

-- a signed number of 128 bits, by the halves of its two's complement
abbrev pub signed_wide : ℕ → ℕ → ℤ
signed_wide low high = cast_signed w128 (unsigned_wide low high)

-- a decimal, by the halves of its units and its scale
abbrev pub decimal_of : (low high scale : ℕ) → FixedPoint
decimal_of low high scale = fixed_point (signed_wide low high) scale

-- the kind of signed numbers of that many bits
abbrev pub signed_kind : ℕ → Option Kind
signed_kind bits = if bits == 8 then Some (kind_of I8) else (if bits == 16 then Some (kind_of I16) else
    (if bits == 32 then Some (kind_of I32) else (if bits == 64 then Some (kind_of I64) else None)))

-- the kind of unsigned numbers of that many bits
abbrev pub unsigned_kind : ℕ → Option Kind
unsigned_kind bits = if bits == 8 then Some (kind_of U8) else (if bits == 16 then Some (kind_of U16) else
    (if bits == 32 then Some (kind_of U32) else (if bits == 64 then Some (kind_of U64) else None)))

-- a struct is filled with the format and the digits of a zero, and has zeros after its texts, so that these alone determine its bytes
pub record FillsIn (zero : ℕ) (f : FormatData) (new : NumFormat) (result : ℤ) : Type 0 where
  pub ok : result ≡ pos 0
  pub given : HasFormat new
  pub same : Agrees (format_of new) f
  pub digits : set_numbered new.digits ≡ Some zero
  pub padded : IsPadded new

-- the digits are 0 to 9
abbrev pub Fills : FormatData → NumFormat → (result : ℤ) → Type 0
Fills = FillsIn 48

-- a struct is filled with the format of the locale that a name spells
pub record FillsLocale (name : List ℕ) (old new : NumFormat) (result : ℤ) : Type 0 where
  pub not_utf8 : ¬ IsUtf8 name → Fails NotUtf8 old new result
  pub unknown : IsUtf8 name → ((place : ℕ) → place < LEN → ¬ Spells name (name_of place)) → Fails UnknownLocale old new result
  pub found : IsUtf8 name → (place : ℕ) → place < LEN → Spells name (name_of place) → Fills (locale_data place) new result

-- a language tag is looked up, and `Found` holds of the place of the locale for it
pub record ByTag {A : Type 0} (tag : List ℕ) (old new : A) (result : ℤ) (Found : ℕ → Type 0) : Type 0 where
  pub not_utf8 : ¬ IsUtf8 tag → Fails NotUtf8 old new result
  pub looked_up : IsUtf8 tag → (found : Option ℕ) × (LooksUpTag tag found × MatchOption found (Fails UnknownLocale old new result) Found)

-- a tag names unknown digits, or no others, and then `Found` holds of the zero of those that it names, if it does
abbrev pub InDigitsOf : {A : Type 0} (tag : List ℕ) → (old new : A) → (result : ℤ) → (Found : Option ℕ → Type 0) → Type 0
InDigitsOf tag old new result Found = (named : Result (Option ℕ) UnknownDigits) × TagResult tag (digits_in tag) named
    × MatchResult named Found (λ _. Fails cross.UnknownDigits old new result)

-- a struct is filled with the format of a locale and the digits that a tag names, which are 0 to 9 if it names none
abbrev pub FillsByTag : (tag : List ℕ) → (old new : NumFormat) → (result : ℤ) → (place : ℕ) → Type 0
FillsByTag tag old new result place =
    InDigitsOf tag old new result (λ zero. FillsIn (unwrap_or zero 48) (locale_data place) new result)

-- the name of a locale is written into an array, unless the tag names unknown digits
abbrev pub NamesByTag : (tag : List ℕ) → (old new : List ℕ) → (result : ℤ) → (place : ℕ) → Type 0
NamesByTag tag old new result place = InDigitsOf tag old new result (λ _. Writes (name_of place) old new result)

-- the digits of a struct are set to those of a name, and nothing else
pub record SetsDigits (name : List ℕ) (old new : NumFormat) (result : ℤ) : Type 0 where
  pub not_utf8 : ¬ IsUtf8 name → Fails NotUtf8 old new result
  pub unknown : IsUtf8 name → digits_named name ≡ None → Fails cross.UnknownDigits old new result
  pub set : IsUtf8 name → IfSome (digits_named name) (λ zero. (result ≡ pos 0) × (set_numbered new.digits ≡ Some zero)
      × (new ≡ record old { digits = new.digits }))

-- three texts are UTF-8
abbrev pub AreUtf8 : List ℕ → List ℕ → List ℕ → Type 0
AreUtf8 a b c = IsUtf8 a × (IsUtf8 b × IsUtf8 c)

-- three texts have at most 8 bytes each
abbrev pub AreShort : List ℕ → List ℕ → List ℕ → Type 0
AreShort a b c = (length a ≤ 8) × ((length b ≤ 8) × (length c ≤ 8))

-- a struct is filled with a separator, a grouping's number, a minus sign and a decimal mark
pub record FillsCustom (separator : List ℕ) (number : ℕ) (minus_sign decimal_mark : List ℕ) (old new : NumFormat)
    (result : ℤ) : Type 0 where
  pub not_utf8 : ¬ AreUtf8 separator minus_sign decimal_mark → Fails NotUtf8 old new result
  pub too_long : AreUtf8 separator minus_sign decimal_mark → ¬ AreShort separator minus_sign decimal_mark → Fails TooLong old new result
  pub bad_grouping : AreUtf8 separator minus_sign decimal_mark → AreShort separator minus_sign decimal_mark → grouping_of number ≡ None
      → Fails BadGrouping old new result
  pub filled : AreUtf8 separator minus_sign decimal_mark → AreShort separator minus_sign decimal_mark
      → IfSome (grouping_of number) (λ grouping. Fills (format_with separator grouping minus_sign decimal_mark) new result)

-- the name of the locale at a place is written into an array
pub record WritesName (place : ℕ) (old new : List ℕ) (result : ℤ) : Type 0 where
  pub name : place < LEN → Writes (name_of place) old new result
  pub no_locale : LEN ≤ place → Fails UnknownLocale old new result

-- whether the format of a struct has a property: 1 or 0
pub record Tells (given holds : Type 0) (result : ℤ) : Type 0 where
  pub bad_format : ¬ given → result ≡ code BadFormat
  pub yes : given → holds → result ≡ pos 1
  pub no : given → ¬ holds → result ≡ pos 0
