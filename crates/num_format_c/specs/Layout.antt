-- A column: the bytes of its values, which rows have one, the texts, and where each ends.
use Rattle.std.specs.Prelude.{◌≡◌, ◌==◌, ℕ, zero, suc, ◌+◌, ◌-◌, ◌*◌, ◌/◌, ◌%◌, ◌^◌, ◌<◌, ◌≤◌, ℤ, pos, nat_le, Bool, ◌&&◌, ◌||◌, List, []}
use Rattle.std.specs.Prelude.{true, false, ◌++◌, length, drop, slice_index_or, slice_range, Option, Some, None, if◌then◌else◌}
use Rattle.std.specs.Borrow.{Bor}
use Rattle.std.specs.Int.{Width, byte_len, cast_signed, from_le_bytes, w8, w16, w32, w64, w128}
use Rattle.num_format.specs.Kind.{IntegerType, Kind, kind_of, I8, U8, I16, U16, I32, U32, I64, U64, I128, U128}
use Rattle.num_format_c.specs.declared.layout.offset.OffsetType.{OffsetType}
use Rattle.num_format_c.specs.declared.layout.texts.Texts.{Texts}
use Rattle.num_format_c.specs.declared.layout.validity.Validity.{Validity}
use Rattle.num_format_c.specs.declared.layout.values.Values.{Values}
use Rattle.num_format_c.specs.declared.layout.offset.OffsetType.TheVariants as offset

-- a type of values: how many bytes one has, which number they are, and the kind of that number
pub record Representation : Type 0 where
  pub size : ℕ
  pub number : List ℕ → ℤ
  pub kind : Kind

-- unsigned integers of a width, of which the first byte is the lowest
abbrev pub unsigned : Width → IntegerType → Representation
unsigned w kind = record { size = byte_len w; number = λ bytes. pos (from_le_bytes w bytes); kind = kind_of kind }

-- signed integers of a width, in two's complement
abbrev pub signed : Width → IntegerType → Representation
signed w kind = record { size = byte_len w; number = λ bytes. cast_signed w (from_le_bytes w bytes); kind = kind_of kind }

-- the numbers of a kind, as Rust's types have them: with a sign, or without
abbrev pub Number : (has_sign : Bool) → Type 0
Number true = ℤ
Number false = ℕ

abbrev pub value_of : (has_sign : Bool) → Number has_sign → ℤ
value_of true = λ z. z
value_of false = λ n. pos n

-- the bytes of row k
abbrev pub row_bytes : (size : ℕ) → List ℕ → ℕ → List ℕ
row_bytes size bytes k = slice_range bytes (k * size) (k * size + size)

-- the number of row k
abbrev pub number_at : Representation → List ℕ → ℕ → ℤ
number_at t values k = t.number (row_bytes t.size values k)

-- how values are represented of the type for which a number stands: the code of Apache Arrow's letter for it, and of q and Q, which Arrow
-- has not
abbrev pub representation_of : ℕ → Option Representation
representation_of code =
    if code == 0x63 then Some (signed w8 I8) else (if code == 0x43 then Some (unsigned w8 U8) else
    (if code == 0x73 then Some (signed w16 I16) else (if code == 0x53 then Some (unsigned w16 U16) else
    (if code == 0x69 then Some (signed w32 I32) else (if code == 0x49 then Some (unsigned w32 U32) else
    (if code == 0x6C then Some (signed w64 I64) else (if code == 0x4C then Some (unsigned w64 U64) else
    (if code == 0x71 then Some (signed w128 I128) else (if code == 0x51 then Some (unsigned w128 U128) else None)))))))))

-- the type of offsets for which a number stands
abbrev pub offset_type_of : ℕ → Option OffsetType
offset_type_of code = if code == 0x69 then Some offset.I32 else (if code == 0x6C then Some offset.I64 else None)

-- the width of offsets
abbrev pub width : OffsetType → Width
width offset.I32 = w32
width offset.I64 = w64

-- offset k
abbrev pub offset_at : OffsetType → List ℕ → ℕ → ℕ
offset_at t bytes k = from_le_bytes (width t) (row_bytes (byte_len (width t)) bytes k)

-- the largest offset: Apache Arrow has signed offsets, of which none is negative
abbrev pub largest_offset : OffsetType → ℕ
largest_offset t = 2 ^ (8 * byte_len (width t) - 1) - 1

-- a column of n rows has n + 1 offsets
abbrev pub IsEnough : OffsetType → (n len : ℕ) → Type 0
IsEnough t n len = len ≡ (n + 1) * byte_len (width t)

-- bit k is set, where the bits of a byte are counted from its lowest
abbrev pub is_bit_set : List ℕ → ℕ → Bool
is_bit_set bits k = slice_index_or bits (k / 8) 0 / 2 ^ (k % 8) % 2 == 1

-- values, or texts, of which some may be null
abbrev pub to_values : (bytes bits : Bor (List ℕ)) → ℕ → Values
to_values bytes bits bit_offset = record { bytes = bytes; validity = record { bits = bits; bit_offset = bit_offset } }

abbrev pub to_texts : (offsets bytes bits : Bor (List ℕ)) → ℕ → Texts
to_texts offsets bytes bits bit_offset =
    record { offsets = offsets; bytes = bytes; validity = record { bits = bits; bit_offset = bit_offset } }

-- row k has a value: there are no bits, or bit k from the offset is set; the other rows are null
abbrev pub is_valid : Validity → (k : ℕ) → Bool
is_valid v k = (length v.bits.now == 0) || is_bit_set v.bits.now (v.bit_offset + k)

-- there are no bits, or there is one for each of n rows
abbrev pub covers : Validity → (n : ℕ) → Bool
covers v n = (length v.bits.now == 0) || nat_le (v.bit_offset + n) (8 * length v.bits.now)

-- how many rows a column has, if its values are whole, and there is a bit for each of them
abbrev pub row_count : Representation → (values : List ℕ) → Validity → Option ℕ
row_count t values v =
    if (length values % t.size == 0) && covers v (length values / t.size) then Some (length values / t.size) else None

-- the number of row k, if it has a value
abbrev pub row_value : Representation → (values : List ℕ) → Validity → (k : ℕ) → Option ℤ
row_value t values v k = if is_valid v k then Some (number_at t values k) else None

-- the text of a row, where that of a number is given; that of a null row is empty
abbrev pub text_or_empty : (ℤ → List ℕ) → Option ℤ → List ℕ
text_or_empty text None = []
text_or_empty text (Some z) = text z

-- the text of row k
abbrev pub row_text : Representation → (ℤ → List ℕ) → (values : List ℕ) → Validity → (k : ℕ) → List ℕ
row_text t text values v k = text_or_empty text (row_value t values v k)

-- the texts of the first n rows, one after another
abbrev pub texts_of : (ℕ → List ℕ) → ℕ → List ℕ
texts_of text zero = []
texts_of text (suc n) = texts_of text n ++ text n

-- offset k of n + 1 is the length of the first k texts
abbrev pub AreEnds : (ℕ → List ℕ) → (n : ℕ) → (ℕ → ℕ) → Type 0
AreEnds text n offset = (k : ℕ) → k ≤ n → offset k ≡ length (texts_of text k)

-- the texts of n rows are at the start of the bytes, whose others are as they were
abbrev pub AreAtStart : (ℕ → List ℕ) → (n : ℕ) → (old new : List ℕ) → Type 0
AreAtStart text n old new = new ≡ texts_of text n ++ drop (length (texts_of text n)) old

-- no offset of n + 1 is below the one before it, or above a limit
pub record AreOffsets (n limit : ℕ) (offset : ℕ → ℕ) : Type 0 where
  pub first : offset 0 ≤ limit
  pub others : (k : ℕ) → k < n → (offset k ≤ offset (k + 1)) × (offset (k + 1) ≤ limit)
