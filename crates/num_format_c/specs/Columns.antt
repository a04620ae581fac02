-- What the calls of C do with columns.
use Rattle.std.specs.Prelude.{◌≡◌, ◌≢◌, ℕ, ◌+◌, ◌^◌, ◌<◌, ◌≤◌, min, ℤ, pos, List, length, slice_index_or, slice_range}
use Rattle.std.specs.Prelude.{Result, IsTrue, MatchOption, MatchResult}
use Rattle.num_format.specs.Format.{FormatData}
use Rattle.std.specs.Int.{w128}
use Rattle.num_format.specs.Kind.{I128, Kind}
use Rattle.num_format.specs.Text.{text_of}
use Rattle.num_format_c.specs.Layout.{AreAtStart, AreEnds, AreOffsets, IsEnough, Representation, is_valid, largest_offset, offset_at}
use Rattle.num_format_c.specs.Layout.{offset_type_of, representation_of, row_bytes, row_count, row_text, signed, texts_of, value_of}
use Rattle.num_format_decimal.specs.FixedPoint.{FixedPoint, fixed_point}
use Rattle.num_format_decimal.specs.Text.{decimal_text}
use Rattle.num_format_decimal.specs.declared.decimal.TheConstants.{MAX_SCALE}
use Rattle.num_format_digits.specs.Digits.{in_digits}
use Rattle.num_format_c.specs.Calls.{Fails, Gets, Parses, Parsing, numbers, typed_numbers}
use Rattle.num_format_c.specs.FormatRef.{HasFormat, HasLatin, digits_of, format_of}
use Rattle.num_format_c.specs.declared.format.NumFormat.{NumFormat}
use Rattle.num_format_c.specs.declared.layout.offset.OffsetType.{OffsetType}
use Rattle.num_format_c.specs.declared.layout.texts.Texts.{Texts}
use Rattle.num_format_c.specs.declared.layout.values.Values.{Values}
use Rattle.num_format_c.specs.declared.status.Status.{Status}
use Rattle.num_format_c.specs.declared.status.Status.TheVariants.{AmbiguousFormat, BadFormat, TooSmall, BadLength, BadOffsets, BadScale}
use Rattle.num_format_c.specs.declared.status.Status.TheVariants.{BadType, TooManyBytes}

-- how the units of decimals are represented
abbrev pub decimal_units : Representation
decimal_units = signed w128 I128

-- the text of the decimal that has units
abbrev pub decimal_at : (scale : ℕ) → FormatData → ℤ → List ℕ
decimal_at scale f z = decimal_text f (fixed_point z scale)

-- what a call that prints a column writes: the offsets, the bytes of the texts, and how many those are
pub record Printed : Type 0 where
  pub offsets : List ℕ
  pub bytes : List ℕ
  pub len : ℕ

abbrev pub to_printed : List ℕ → List ℕ → ℕ → Printed
to_printed offsets bytes len = record { offsets = offsets; bytes = bytes; len = len }

-- the texts of n rows are a column
pub record IsColumn (text : ℕ → List ℕ) (n : ℕ) (t : OffsetType) (old new : Printed) : Type 0 where
  pub bytes : AreAtStart text n old.bytes new.bytes
  pub ends : AreEnds text n (offset_at t new.offsets)
  pub len : new.len ≡ length (texts_of text n)

-- the texts of n rows are printed
pub record PrintsRows (text : ℕ → List ℕ) (n : ℕ) (t : OffsetType) (old new : Printed) (result : ℤ) : Type 0 where
  pub bad_length : ¬ IsEnough t n (length old.offsets) → Fails BadLength old new result
  pub too_many_bytes : IsEnough t n (length old.offsets) → largest_offset t < length (texts_of text n) → Fails TooManyBytes old new result
  pub too_small : IsEnough t n (length old.offsets) → length (texts_of text n) ≤ largest_offset t
      → length old.bytes < length (texts_of text n) → Fails TooSmall old new result
  pub printed : IsEnough t n (length old.offsets) → length (texts_of text n) ≤ largest_offset t
      → length (texts_of text n) ≤ length old.bytes → (result ≡ pos 0) × IsColumn text n t old new

-- the texts of rows in the digits of a zero
abbrev pub rows_in : (zero : ℕ) → (ℕ → List ℕ) → ℕ → List ℕ
rows_in z text k = in_digits z (text k)

-- a call does something under the format of a struct, in its digits
pub record UnderFormat {A : Type 0} (s : NumFormat) (Does : FormatData → (zero : ℕ) → Type 0) (old new : A) (result : ℤ) : Type 0 where
  pub bad_format : ¬ HasFormat s → Fails BadFormat old new result
  pub format : HasFormat s → Does (format_of s) (digits_of s)

-- the values of a column are printed under the format of a struct, in its digits
abbrev pub PrintsValues : Representation → (FormatData → ℤ → List ℕ) → OffsetType → NumFormat → Values → (old new : Printed) → (result : ℤ)
    → Type 0
PrintsValues v text t s values old new result = UnderFormat s (λ f z.
    MatchOption (row_count v values.bytes.now values.validity) (Fails BadLength old new result) (λ n.
    PrintsRows (rows_in z (row_text v (text f) values.bytes.now values.validity)) n t old new result)) old new result

-- numbers of the type for which a number stands are printed
abbrev pub PrintsNumbers : (value_code offset_code : ℕ) → NumFormat → Values → (old new : Printed) → (result : ℤ) → Type 0
PrintsNumbers value_code offset_code s values old new result =
    MatchOption (offset_type_of offset_code) (Fails BadType old new result) (λ t.
    MatchOption (representation_of value_code) (Fails BadType old new result) (λ v. PrintsValues v text_of t s values old new result))

-- decimals of one scale are printed
pub record PrintsDecimals (scale offset_code : ℕ) (s : NumFormat) (units : Values) (old new : Printed) (result : ℤ) : Type 0 where
  pub bad_scale : MAX_SCALE < scale → Fails BadScale old new result
  pub column : scale ≤ MAX_SCALE → MatchOption (offset_type_of offset_code) (Fails BadType old new result) (λ t.
      PrintsValues decimal_units (decimal_at scale) t s units old new result)

-- the length of some texts is written
pub record Measures (total old new : ℕ) (result : ℤ) : Type 0 where
  pub too_many_bytes : 2 ^ 64 ≤ total → Fails TooManyBytes old new result
  pub size : total < 2 ^ 64 → (result ≡ pos 0) × (new ≡ total)

-- that of the texts of a column under the format of a struct, in its digits
abbrev pub MeasuresValues : Representation → (FormatData → ℤ → List ℕ) → NumFormat → Values → (old new : ℕ) → (result : ℤ) → Type 0
MeasuresValues v text s values old new result = UnderFormat s (λ f z.
    MatchOption (row_count v values.bytes.now values.validity) (Fails BadLength old new result) (λ n.
    Measures (length (texts_of (rows_in z (row_text v (text f) values.bytes.now values.validity)) n)) old new result)) old new result

-- that of the texts of numbers of the type for which a number stands is written
abbrev pub MeasuresNumbers : (value_code : ℕ) → NumFormat → Values → (old new : ℕ) → (result : ℤ) → Type 0
MeasuresNumbers value_code s values old new result =
    MatchOption (representation_of value_code) (Fails BadType old new result) (λ v. MeasuresValues v text_of s values old new result)

-- that of the texts of decimals of one scale is written
pub record MeasuresDecimals (scale : ℕ) (s : NumFormat) (units : Values) (old new : ℕ) (result : ℤ) : Type 0 where
  pub bad_scale : MAX_SCALE < scale → Fails BadScale old new result
  pub column : scale ≤ MAX_SCALE → MeasuresValues decimal_units (decimal_at scale) s units old new result

-- what a call that parses one text returns: the struct, the text, and what is returned
abbrev pub RowParser : (A : Type 0) → Type 1
RowParser A = NumFormat → List ℕ → Result A Status → Type 0

-- what a call that parses one text returns, whatever the place of an unexpected byte
abbrev pub Row : {X E : Type 0} → Parsing X E → RowParser X
Row p s text result = (at : ℕ) × Gets p s text 0 at result

-- the bytes of the number that was parsed are written over others, or its error is returned
abbrev pub StoresBytes : {A : Type 0} → Representation → (A → ℤ) → Result A Status → (old new : List ℕ) → (result : ℤ) → Type 0
StoresBytes v value r old new result =
    MatchResult r (λ x. (result ≡ pos 0) × (v.number new ≡ value x)) (λ status. Fails status old new result)

-- what it writes: the bytes of the values, and a status of each row
pub record Parsed : Type 0 where
  pub values : List ℕ
  pub statuses : List ℤ

abbrev pub to_parsed : List ℕ → List ℤ → Parsed
to_parsed values statuses = record { values = values; statuses = statuses }

-- a text of a row is parsed if the row has a value; else its bytes are as they were, and the status is 0
pub record ParsesRow {A : Type 0} (Parses : RowParser A) (value : A → ℤ) (v : Representation) (has_value : Type 0) (s : NumFormat)
    (text old new : List ℕ) (status : ℤ) : Type 0 where
  pub valid : has_value → (r : Result A Status) × Parses s text r × StoresBytes v value r old new status
  pub null : ¬ has_value → (new ≡ old) × (status ≡ pos 0)

-- each of n rows is parsed: the text of row k begins at offset k and ends at the next
abbrev pub AreParsed : {A : Type 0} → RowParser A → (A → ℤ) → Representation → OffsetType → NumFormat → Texts → (old new : Parsed) → (n : ℕ)
    → Type 0
AreParsed Parses value v t s c old new n =
    (k : ℕ) → k < n →
    ParsesRow Parses value v (IsTrue (is_valid c.validity k)) s
    (slice_range c.bytes.now (offset_at t c.offsets.now k) (offset_at t c.offsets.now (k + 1)))
    (row_bytes v.size old.values k) (row_bytes v.size new.values k) (slice_index_or new.statuses k (pos 0))

-- a column of n rows has n + 1 offsets and n statuses
abbrev pub HasLengths : OffsetType → Texts → Parsed → (n : ℕ) → Type 0
HasLengths t c old n = IsEnough t n (length c.offsets.now) × (length old.statuses ≡ n)

-- the offsets of n rows lie in the bytes
abbrev pub HasOffsets : OffsetType → Texts → (n : ℕ) → Type 0
HasOffsets t c n = AreOffsets n (min (largest_offset t) (length c.bytes.now)) (offset_at t c.offsets.now)

-- n rows are parsed, each as by the call for one text
pub record ParsesRows {A : Type 0} (Parses : RowParser A) (value : A → ℤ) (v : Representation) (t : OffsetType) (s : NumFormat) (c : Texts)
    (old new : Parsed) (result : ℤ) (n : ℕ) : Type 0 where
  pub bad_length : ¬ HasLengths t c old n → Fails BadLength old new result
  pub bad_offsets : HasLengths t c old n → ¬ HasOffsets t c n → Fails BadOffsets old new result
  pub parsed : HasLengths t c old n → HasOffsets t c n → (result ≡ pos 0) × AreParsed Parses value v t s c old new n

-- the same if the values are those of whole rows, and there is a bit for each of them
abbrev pub ParsesValues : {A : Type 0} → RowParser A → (A → ℤ) → Representation → OffsetType → NumFormat → Texts → (old new : Parsed)
    → (result : ℤ) → Type 0
ParsesValues Parses value v t s c old new result =
    MatchOption (row_count v old.values c.validity) (Fails BadLength old new result) (ParsesRows Parses value v t s c old new result)

-- the texts of a column are parsed under the format of a struct, if it is one by which no text can be misread
pub record ParsesUnder {A E : Type 0} (p : Parsing A E) (value : A → ℤ) (v : Representation) (t : OffsetType) (s : NumFormat)
    (c : Texts) (old new : Parsed) (result : ℤ) : Type 0 where
  pub bad_format : ¬ HasFormat s → Fails BadFormat old new result
  pub ambiguous : HasFormat s → ¬ p.way.Takes (format_of s) → Fails AmbiguousFormat old new result
  pub parsed : HasFormat s → p.way.Takes (format_of s) → ParsesValues (Row p) value v t s c old new result

-- they are parsed leniently, which takes any format whose digits are 0 to 9
pub record ParsesLatin {A : Type 0} (k : Kind) (value : A → ℤ) (v : Representation) (t : OffsetType) (s : NumFormat) (c : Texts)
    (old new : Parsed) (result : ℤ) : Type 0 where
  pub bad_format : ¬ HasLatin s → Fails BadFormat old new result
  pub parsed : HasLatin s → ParsesValues (Parses k value) value v t s c old new result

-- they are parsed as numbers of a kind: strictly, as people type them, or leniently
pub record ParsesInMode {A : Type 0} (mode : ℕ) (k : Kind) (value : A → ℤ) (v : Representation) (t : OffsetType) (s : NumFormat) (c : Texts)
    (old new : Parsed) (result : ℤ) : Type 0 where
  pub strictly : mode ≡ 0 → ParsesUnder (numbers k value) value v t s c old new result
  pub typed : mode ≡ 2 → ParsesUnder (typed_numbers k value) value v t s c old new result
  pub leniently : mode ≢ 0 → mode ≢ 2 → ParsesLatin k value v t s c old new result

-- numbers of the type for which a number stands are parsed
abbrev pub ParsesNumbers : (value_code offset_code mode : ℕ) → NumFormat → Texts → (old new : Parsed) → (result : ℤ) → Type 0
ParsesNumbers value_code offset_code mode s c old new result =
    MatchOption (offset_type_of offset_code) (Fails BadType old new result) (λ t.
    MatchOption (representation_of value_code) (Fails BadType old new result) (λ v.
    ParsesInMode mode v.kind (value_of v.kind.has_negative) v t s c old new result))

-- decimals of one scale are parsed
pub record ParsesDecimals {E : Type 0} (p : Parsing FixedPoint E) (scale offset_code : ℕ) (s : NumFormat) (c : Texts) (old new : Parsed)
    (result : ℤ) : Type 0 where
  pub bad_scale : MAX_SCALE < scale → Fails BadScale old new result
  pub column : scale ≤ MAX_SCALE → MatchOption (offset_type_of offset_code) (Fails BadType old new result) (λ t.
      ParsesUnder p (λ d. d.units) decimal_units t s c old new result)

-- one number is parsed as people type it, and its bytes are written
pub record ParsesTypedInto {A : Type 0} (k : Kind) (value : A → ℤ) (v : Representation) (s : NumFormat) (text old new : List ℕ)
    (at_old at_new : ℕ) (result : ℤ) : Type 0 where
  pub bad_format : ¬ HasFormat s → Fails BadFormat old new result × (at_new ≡ at_old)
  pub bad_length : HasFormat s → ¬ (length old ≡ v.size) → Fails BadLength old new result × (at_new ≡ at_old)
  pub parsed : HasFormat s → length old ≡ v.size → (r : Result A Status) × Gets (typed_numbers k value) s text at_old at_new r
      × StoresBytes v value r old new result

-- one number of the type for which a number stands
abbrev pub ParsesTyped : (value_code : ℕ) → NumFormat → (text old new : List ℕ) → (at_old at_new : ℕ) → (result : ℤ) → Type 0
ParsesTyped value_code s text old new at_old at_new result =
    MatchOption (representation_of value_code) (Fails BadType old new result × (at_new ≡ at_old)) (λ v.
    ParsesTypedInto v.kind (value_of v.kind.has_negative) v s text old new at_old at_new result)
