-- The length of a number's text, in bytes and in characters, and the fill round it.
use Rattle.std.proofs.Common.{◌≡◌, ℕ, suc, ◌+◌, ◌-◌, ◌*◌, ◌/◌, ◌%◌, ◌^◌, ◌<◌, ◌≤◌, Bool, true, false, List, [], ◌∷◌, ◌++◌, length, refl, ap}
use Rattle.std.proofs.Common.{◌∙◌, sym, subst, arith, length-append, append-nil, ℤ, unsigned_abs}
use Rattle.std.specs.Prelude.{nat_lt, if◌then◌else◌, All, Option, None, Some, Result, replicate, unwrap_or, encode_utf8}
use Rattle.std.specs.Int.{is_negative}
use Rattle.std.specs.List.{count_by, repeat}
use Rattle.std.specs.Fmt.{char_count, is_char_start, IsDefaultSpec, WritesInCalls, spec_width, spec_align, spec_fill, formatter_spec}
use Rattle.std.specs.Fmt.{formatter_writer, WritesOnOk, WritesStyledOnOk}
use Rattle.std.specs.declared.fmt.Alignment.{Alignment}
use Rattle.std.specs.declared.fmt.Alignment.TheVariants.{Left, Right, Center}
use Rattle.std.specs.declared.fmt.Error.{Error}
use Rattle.std.specs.declared.fmt.Formatter.{Formatter}
use Rattle.std.proofs.Math.Nat.{mul-le-mul, pow-suc}
use Rattle.std.proofs.Padding.{char_count-nil, char_count-cons}
use Rattle.std.proofs.lemmas.Bool.Decides.{nat_tests}
use Rattle.std.proofs.lemmas.List.{length-replicate}
use Rattle.std.proofs.lemmas.List.Recursion.{is_count_by}
use Rattle.std.proofs.lemmas.List.Elements.{All-nil, All-cons, All-head, All-tail, All-push}
use Rattle.num_format_text.specs.declared.grouping.Grouping.{Grouping}
use Rattle.num_format_text.specs.Format.{FormatData}
use Rattle.num_format_int.specs.Digits.{digits}
use Rattle.num_format_int.specs.Groups.{last_digits}
use Rattle.num_format_int.specs.Grouped.{grouped, separated, separators, stands}
use Rattle.num_format_int.specs.Text.{body_of, text_of}
use Rattle.num_format_int.proofs.DigitLemmas.{by_digits, digits-small, digits-more, digits-split, digits_given, length-digits-le}
use Rattle.num_format_int.proofs.DigitLemmas.{length-last_digits}
use Rattle.num_format_int.proofs.GroupedLemmas.{length-grouped}
use Rattle.num_format_int.proofs.TextLemmas.{length-text_of}
use Rattle.num_format_writers.specs.Columns.{fill_before, filled, text_size}

-- a number from 10 ^ k up to 10 ^ (k + 1) has k + 1 digits
pub length_digits_power : (k n : ℕ) → 10 ^ k ≤ n → n < 10 * 10 ^ k → k + 1 ≡ length (digits n)
length_digits_power k n low high =
    let most = length-digits-le (suc k) n (omega arith) (omega (arith, pow-suc 10 k)) in
    let parts = ap length (digits-split k n low) ∙ length-append (digits (n / 10 ^ k)) (last_digits k n) in
    omega (arith, most, parts, length-last_digits k n, digits_given (n / 10 ^ k))

-- zero has one
pub length_digits_zero : (n : ℕ) → n ≡ 0 → 1 ≡ length (digits n)
length_digits_zero n none = sym (ap length (digits-small n (omega arith)))

-- the digits of a number are below ten
digits-below_ten : (n : ℕ) → All (λ d. d < 10) (digits n)
digits-below_ten = by_digits (λ n. All (λ d. d < 10) (digits n))
    (λ n small. rw (digits-small n small) (All-cons (λ d. d < 10) n [] small (All-nil (λ d. d < 10))))
    (λ n large less. rw (digits-more n large) (All-push (λ d. d < 10) (digits (n / 10)) (n % 10) less (omega arith)))

-- the characters of two texts together
char_count-append : (a b : List ℕ) → char_count (a ++ b) ≡ char_count a + char_count b
char_count-append [] b = omega (arith, char_count-nil)
char_count-append (x ∷ a) b = omega (arith, char_count-cons x (a ++ b), char_count-cons x a, char_count-append a b)

-- a digit is a character
char_count-digit : (d : ℕ) (rest : List ℕ) → d < 10 → char_count ((48 + d) ∷ rest) ≡ 1 + char_count rest
char_count-digit d rest small =
    let low : nat_lt (48 + d) 128 ≡ true = grind (arith, nat_tests) in
    char_count-cons (48 + d) rest ∙ rw low

-- what is there or not has as many characters as a list of that length that is there or not
char_count-when : (b : Bool) (s : List ℕ) → char_count (if b then s else []) ≡ length {A = ℕ} (if b then replicate (char_count s) 0 else [])
char_count-when true s = sym (length-replicate (char_count s) 0)
char_count-when false s = char_count-nil

-- separated digits have as many characters as they have bytes with a separator of as many bytes
char_count-separated : (is_due : ℕ → Bool) (s ds : List ℕ) → All (λ d. d < 10) ds
    → char_count (separated is_due s ds) ≡ length (separated is_due (replicate (char_count s) 0) ds)
char_count-separated is_due s [] below = char_count-nil
char_count-separated is_due s (d ∷ ds) below =
    let b = is_due (length ds) in
    let separator : List ℕ = if b then s else [] in
    let other : List ℕ = if b then replicate (char_count s) 0 else [] in
    let rest = separated is_due s ds in
    let other_rest = separated is_due (replicate (char_count s) 0) ds in
    omega (
      arith,
      char_count-digit d (separator ++ rest) (All-head (λ x. x < 10) d ds below),
      char_count-append separator rest,
      char_count-when b s,
      char_count-separated is_due s ds (All-tail (λ x. x < 10) d ds below),
      length-append other other_rest,
    )

-- the characters of grouped digits
char_count-grouped : (g : Grouping) (s ds : List ℕ) → All (λ d. d < 10) ds
    → char_count (grouped g s ds) ≡ length ds + separators g (length ds) * char_count s
char_count-grouped g s ds below =
    char_count-separated (stands g (length ds)) s ds below
    ∙ length-grouped g (replicate (char_count s) 0) ds
    ∙ ap (λ size. length ds + separators g (length ds) * size) (length-replicate (char_count s) 0)

sign_size : (size : List ℕ → ℕ) → size [] ≡ 0 → (b : Bool) (s : List ℕ) → size (if b then s else []) ≡ (if b then size s else 0)
sign_size size none true s = refl
sign_size size none false s = none

-- the length of a text in bytes
pub length_text_of : (f : FormatData) (z : ℤ) → length (text_of f z) ≡ text_size f.grouping z (length f.minus_sign) (length f.separator)
length_text_of f z =
    omega (arith, length-text_of f z, sign_size length refl (is_negative z) f.minus_sign)

-- and in characters
pub char_count_text_of : (f : FormatData) (z : ℤ) → char_count (text_of f z)
    ≡ text_size f.grouping z (char_count f.minus_sign) (char_count f.separator)
char_count_text_of f z =
    let sign : List ℕ = if is_negative z then f.minus_sign else [] in
    omega (
      arith,
      char_count-append sign (body_of f (unsigned_abs z)),
      sign_size char_count char_count-nil (is_negative z) f.minus_sign,
      char_count-grouped f.grouping f.separator (digits (unsigned_abs z)) (digits-below_ten (unsigned_abs z)),
    )

count_when : (b : Bool) (n : ℕ) → (if b then 1 else 0) + n ≡ (if b then 1 + n else n)
count_when true n = refl
count_when false n = omega arith

-- the bytes that begin a character are as many as the characters
pub count_by_is_char_start : (text : List ℕ) → count_by is_char_start text ≡ char_count text
count_by_is_char_start text =
    sym (is_count_by char_count is_char_start char_count-nil (λ b rest. char_count-cons b rest
    ∙ count_when (is_char_start b) (char_count rest)) text)

one_at_most : (b : Bool) → (if b then 1 else 0) ≤ 1
one_at_most true = omega arith
one_at_most false = omega arith

-- a text has no more characters than bytes
pub char_count_le_length : (text : List ℕ) → char_count text ≤ length text
char_count_le_length [] = omega (arith, char_count-nil)
char_count_le_length (b ∷ text) = omega (arith, char_count-cons b text, one_at_most (is_char_start b), char_count_le_length text)

-- the separators of a text take few bytes
pub separators_small : (a b : ℕ) → a ≤ 18 → b ≤ 8 → a * b ≤ 144
separators_small a b few short = mul-le-mul few short

fill_before-zero : (side : Option Alignment) → fill_before side 0 ≡ 0
fill_before-zero (Some Left) = refl
fill_before-zero (Some Center) = refl
fill_before-zero (Some Right) = refl
fill_before-zero None = refl

-- the fill before a text is a part of all fill
pub fill_before_le : (side : Option Alignment) (n : ℕ) → fill_before side n ≤ n
fill_before_le (Some Left) n = omega arith
fill_before_le (Some Center) n = omega arith
fill_before_le (Some Right) n = omega arith
fill_before_le None n = omega arith

-- with no width, a text stands alone
filled-none : (side : Option Alignment) (fill : ℕ) (text : List ℕ) → filled None side fill text ≡ text
filled-none side fill text =
    let none : 0 - char_count text ≡ 0 = omega arith in
    rw (none, fill_before-zero side) (append-nil text)

-- a text between two runs of fill
pub filled_is : (width : Option ℕ) (side : Option Alignment) (fill : ℕ) (text bytes : List ℕ) (missing before : ℕ) →
    missing ≡ unwrap_or width 0 - char_count text → before ≡ fill_before side missing → bytes ≡ encode_utf8 fill →
    repeat before bytes ++ (text ++ repeat (missing - before) bytes) ≡ filled width side fill text
filled_is width side fill text bytes missing before short some same = rw (some, same, short)

-- what is written for any options is the text alone for a plain formatter
pub writes_plain : {W : Type 0} (took : W → List ℕ → W → Type 0) (f g : Formatter W) (r : Result (Unit {0}) Error) (text : List ℕ) →
    WritesStyledOnOk took f r (filled (spec_width (formatter_spec f)) (spec_align (formatter_spec f)) (spec_fill (formatter_spec f)) text) g
    → WritesOnOk took f r text g
writes_plain took f g r text styled plain ok =
    let written = styled plain.flush ok in
    let no_width : spec_width (formatter_spec f) ≡ None = rw plain.bare.width in
    let alone : filled (spec_width (formatter_spec f)) (spec_align (formatter_spec f)) (spec_fill (formatter_spec f)) text ≡ text =
    ap (λ width. filled width (spec_align (formatter_spec f)) (spec_fill (formatter_spec f)) text) no_width ∙ filled-none _ _ text in
    record {
      wrote = subst (λ bytes. WritesInCalls took (formatter_writer f) bytes (formatter_writer g)) alone written.wrote;
      plain = record { bare = subst (λ s. IsDefaultSpec s) (sym written.spec) plain.bare; flush = written.flush };
    }
