-- When every number reads back from its text.
use Rattle.std.proofs.Common.{◌≡◌, ℕ, ◌+◌, ◌-◌, ◌*◌, ◌^◌, ◌<◌, Bool, true, false, List, [], ◌∷◌, ◌++◌, length, map, refl, ap, ◌∙◌, sym}
use Rattle.std.proofs.Common.{arith, ℤ, pos, negsuc, unsigned_abs, IsUtf8}
use Rattle.std.specs.Prelude.{codes, filter, if◌then◌else◌, ◌||◌}
use Rattle.std.specs.Char.{is_ascii_digit}
use Rattle.std.specs.Int.{is_negative}
use Rattle.std.specs.List.{list_any}
use Rattle.std.specs.Str.{chars}
use Rattle.std.proofs.lemmas.Bool.{false_from_ne_true, or_parts}
use Rattle.std.proofs.lemmas.Bool.Decides.{Decides-eqb}
use Rattle.std.proofs.lemmas.Int.{ints}
use Rattle.std.proofs.lemmas.List.{length-append, length-map, nil_from_length}
use Rattle.std.proofs.lemmas.List.Elements.{All-head, All-tail, filter-append}
use Rattle.std.proofs.lemmas.Map.Views.{any-filter_same}
use Rattle.std.proofs.lemmas.Slice.Eq.{starts_is}
use Rattle.std.proofs.lemmas.Str.{chars-append, chars-IsAscii, chars-nil, IsUtf8-append, IsUtf8-from_ascii, IsUtf8-nil}
use Rattle.std.proofs.lemmas.Str.Ascii.{IsAscii-nil, IsAscii-cons}
use Rattle.num_format_text.specs.declared.grouping.Grouping.{Grouping}
use Rattle.num_format_text.specs.declared.grouping.Grouping.TheVariants.{Standard, Posix}
use Rattle.num_format_text.specs.English.{english_with}
use Rattle.num_format_text.specs.Format.{FormatData}
use Rattle.num_format_int.specs.Digits.{digits}
use Rattle.num_format_int.specs.Grouped.{grouped, separated, separators, stands, printed_separator}
use Rattle.num_format_int.specs.Kind.{IsValueOf, IntegerType, kind_of, U8, I128}
use Rattle.num_format_int.specs.Text.{body_of, text_of}
use Rattle.num_format_int.proofs.DigitLemmas.{AreDigits, digits-below_ten}
use Rattle.num_format_int.proofs.GroupedLemmas.{length-grouped, of_either}
use Rattle.num_format_int.proofs.TextLemmas.{length-digits-i128-MIN}
use Rattle.num_format_parsing.specs.Reading.{text_digits, is_negative_text, is_other_numeral, other_numeral, too_many_digits}
use Rattle.num_format_parsing.specs.Strict.{with_separators}
use Rattle.num_format_parsing.proofs.CommonLemmas.{empty_plain, of_printed}
use Rattle.num_format_parsing.proofs.ReadingLemmas.{is_ascii_digit-digit, is_other_numeral-digit, ucd_category}
use Rattle.num_format_parsing.proofs.SymbolLemmas.{plain-symbols}
use Rattle.num_format_parsing.proofs.ToldLemmas.{AllowsLongest, Tells, tells-accepted, tells-same, tells-canonical}
use Rattle.num_format_parsing.proofs.CanonicalLemmas.{utf8-separated}
use Rattle.num_format_certificates.specs.Laws.{BothNeededLaw, RoundTripLaw, Utf8Law}
use Rattle.num_format_certificates.specs.RoundTrips.{ReadsBack, RoundTrips, HasNoNumeral, IsUnambiguous}

-- each type allows as many digits as its longest value has
allows_longest : (t : IntegerType) → AllowsLongest (kind_of t)
unfolding digits
allows_longest U8 = record { limit = refl; low = λ signed. grind arith; unsigned = λ unsigned. grind (arith, ints) }
allows_longest _ = record { limit = refl; low = λ signed. grind arith; unsigned = λ unsigned. grind (arith, ints) }

-- so a value reads back, if its text tells it
pub reads_back-from_tells : (t : IntegerType) (f : FormatData) (z : ℤ) → IsValueOf (kind_of t) z →
    Tells f z (text_of f z) → ReadsBack (kind_of t) f z
reads_back-from_tells t f z value tells = record {
  accepted = tells-accepted (kind_of t) f z (text_of f z) (allows_longest t) value tells;
  same = tells-same f z (text_of f z) tells;
}

-- as each does under a format that is not ambiguous
pub round_trips-from_unambiguous : (f : FormatData) → IsUtf8 f.minus_sign → IsUtf8 f.separator → IsUnambiguous f → RoundTrips f
round_trips-from_unambiguous f sign separator plain t z value =
    let symbols = plain-symbols f plain sign (of_printed IsUtf8 IsUtf8-nil f.grouping f.separator separator) in
    reads_back-from_tells t f z value (tells-canonical f z (text_of f z) symbols (with_separators refl))

-- the digits and the other numerals among characters
abbrev numerals_among : List ℕ → List ℕ
numerals_among cs = filter (λ c. is_other_numeral c || is_ascii_digit c) cs

abbrev numerals : List ℕ → List ℕ
numerals t = numerals_among (chars t)

-- those of a text that may begin with another
numerals-when : (b : Bool) (s rest : List ℕ) → IsUtf8 s →
    numerals ((if b then s else []) ++ rest) ≡ (if b then numerals s else []) ++ numerals rest
numerals-when true s rest utf8 = ap numerals_among (chars-append s rest utf8) ∙ filter-append _ (chars s) (chars rest)
numerals-when false s rest utf8 = refl

-- and those of separated digits are the digits, separated by those of the separator
numerals-separated : (is_due : ℕ → Bool) (s ds : List ℕ) → IsUtf8 s → AreDigits ds →
    numerals (separated is_due s ds) ≡ separated is_due (numerals s) ds
numerals-separated is_due s [] utf8 below = ap numerals_among chars-nil
numerals-separated is_due s (d ∷ ds) utf8 below =
    let small : d < 10 = All-head (λ x. x < 10) d ds below in
    let ascii = IsAscii-cons (48 + d) [] (omega arith) IsAscii-nil in
    let digit = is_ascii_digit-digit d small in
    let separator = numerals-when (is_due (length ds)) s (separated is_due s ds) utf8 in
    let rest = numerals-separated is_due s ds utf8 (All-tail (λ x. x < 10) d ds below) in
    numerals-when true ((48 + d) ∷ []) ((if is_due (length ds) then s else []) ++ separated is_due s ds) (IsUtf8-from_ascii _ ascii)
    ∙ rw (chars-IsAscii _ ascii, is_other_numeral-digit (48 + d) digit, digit, separator, rest)

-- without other numerals, they are the digits
only_digits : (cs : List ℕ) → list_any is_other_numeral cs ≡ false → numerals_among cs ≡ filter is_ascii_digit cs
only_digits [] none = refl
only_digits (c ∷ cs) none = let both = or_parts (is_other_numeral c) _ none in rw (both.0, only_digits cs both.1)

plain-from_none : (t : List ℕ) → length (numerals t) ≡ 0 → HasNoNumeral t
plain-from_none t none =
    let nil = nil_from_length (numerals t) none in
    let no_other = sym (any-filter_same is_other_numeral _ true (λ c other. rw other) (chars t)) ∙ ap (list_any is_other_numeral) nil in
    record { no_digit = ap (map (λ c. c - 48)) (sym (only_digits (chars t) no_other) ∙ nil); no_other = no_other }

-- a separator is printed among the 39 digits of `i128::MIN`, if ever
plain-printed : (g : Grouping) (s : List ℕ) → separators g 39 * length (numerals s) ≡ 0 → HasNoNumeral (printed_separator g s)
plain-printed Posix s none = empty_plain
plain-printed _ s none = plain-from_none s (omega arith)

-- the two values of `i128` that decide
abbrev pub TwoReadBack : FormatData → Type 0
TwoReadBack f = ReadsBack (kind_of I128) f (pos 1) × ReadsBack (kind_of I128) f (negsuc (2 ^ 127 - 1))

pub one_of_i128 : IsValueOf (kind_of I128) (pos 1)
one_of_i128 = record { above = omega (arith, ints); below = omega (arith, ints); zero = λ h. refl }

pub lowest_of_i128 : IsValueOf (kind_of I128) (negsuc (2 ^ 127 - 1))
lowest_of_i128 = record { above = omega (arith, ints); below = omega (arith, ints); zero = λ h. refl }

pub two-from_all : (f : FormatData) → RoundTrips f → TwoReadBack f
two-from_all f all = (all I128 (pos 1) one_of_i128, all I128 (negsuc (2 ^ 127 - 1)) lowest_of_i128)

-- where 1 reads back, the minus sign is not empty; and where `i128::MIN` does, its text has 39 numerals, which are its digits
pub unambiguous-from_two : (f : FormatData) → IsUtf8 f.minus_sign → IsUtf8 f.separator → TwoReadBack f → IsUnambiguous f
unambiguous-from_two f sign separator (one, lowest) =
    let text = text_of f (negsuc (2 ^ 127 - 1)) in
    let negative : is_negative_text f text ≡ true = (starts_is Decides-eqb text f.minus_sign _ refl).1 (body_of f (2 ^ 127)) refl in
    let few : ¬ (40 < length (text_digits text) + 1) = λ many. lowest.accepted (too_many_digits (rw negative many)) in
    let digits_only = only_digits (chars text) (false_from_ne_true _ (λ some. lowest.accepted (other_numeral some))) in
    let ds = digits (2 ^ 127) in
    let body = numerals-separated (stands f.grouping (length ds)) f.separator ds separator (digits-below_ten (2 ^ 127)) in
    let all : length (numerals text) ≡ length (numerals f.minus_sign) + (39 + separators f.grouping 39 * length (numerals f.separator)) =
    ap length (numerals-when true f.minus_sign (body_of f (2 ^ 127)) sign ∙ ap (λ xs. numerals f.minus_sign ++ xs) body)
    ∙ length-append (numerals f.minus_sign) (grouped f.grouping (numerals f.separator) ds)
    ∙ ap (λ n. length (numerals f.minus_sign) + n) (length-grouped f.grouping (numerals f.separator) ds)
    ∙ ap (λ n. length (numerals f.minus_sign) + (n + separators f.grouping n * length (numerals f.separator))) length-digits-i128-MIN in
    let only = ap length digits_only in
    let figures_long = length-map (filter is_ascii_digit (chars text)) (λ (c : ℕ). c - 48) in
    record {
      sign_given = λ empty. omega (arith, ints, rw empty at one.same);
      sign = plain-from_none f.minus_sign (omega arith);
      separator = plain-printed f.grouping f.separator (omega arith);
    }

-- so these two decide
pub round_trip_law : RoundTripLaw
round_trip_law = record {
  two_values = λ f sign separator.
      (two-from_all f, λ two. round_trips-from_unambiguous f sign separator (unambiguous-from_two f sign separator two));
  characters = λ f sign separator.
      (λ all. unambiguous-from_two f sign separator (two-from_all f all), round_trips-from_unambiguous f sign separator);
}

-- neither decides alone, which is computed
pub both_needed_law : BothNeededLaw
unfolding chars digits ucd_category
both_needed_law =
    let f = english_with Standard (codes ",") (codes "-0") in
    let g = english_with Standard (codes ",") [] in record {
      lowest = (
        reads_back-from_tells I128 f (pos 1) one_of_i128 (record { same_digits = refl; plain = refl; sign = refl }),
        λ reads_back. reads_back.accepted (too_many_digits (omega arith)),
      );
      one = (
        λ reads_back. (let wrong : negsuc 0 ≡ pos 1 = reads_back.same in cc),
        reads_back-from_tells I128 g (negsuc (2 ^ 127 - 1)) lowest_of_i128 (record { same_digits = refl; plain = refl; sign = refl }),
      );
    }

-- the text of a number is UTF-8, if the minus sign and the separator are
pub utf8_law : Utf8Law
utf8_law f z sign separator =
    let ds = digits (unsigned_abs z) in
    let is_due = stands f.grouping (length ds) in
    IsUtf8-append _ (separated is_due f.separator ds) (of_either IsUtf8 IsUtf8-nil (is_negative z) f.minus_sign sign)
    (utf8-separated is_due f.separator ds separator (digits-below_ten (unsigned_abs z)))
