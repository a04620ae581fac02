-- What a parser of decimals reads of a text, and what it leaves out.
use Rattle.std.proofs.Common.{◌≡◌, ℕ, zero, suc, ◌+◌, ◌-◌, ◌*◌, ◌/◌, ◌^◌, ◌<◌, ◌≤◌, inl, inr, Bool, true, false, List, [], ◌∷◌, ◌++◌}
use Rattle.std.proofs.Common.{length, take, drop, take-append-drop, drop-drop, refl, ap, ◌∙◌, sym, subst, arith, length-append, length-drop}
use Rattle.std.proofs.Common.{ℤ, unsigned_abs, Err, append-nil, ◌⊎◌}
use Rattle.std.specs.Prelude.{if◌then◌else◌, FitsSigned, Result, Ok}
use Rattle.std.specs.Char.{is_ascii_digit}
use Rattle.std.specs.Int.{is_negative, w128}
use Rattle.std.specs.Int.Digits.{number_from_digits}
use Rattle.std.specs.List.{list_all}
use Rattle.std.proofs.lemmas.Bool.{cases_lt, both_ways}
use Rattle.std.proofs.lemmas.Bool.Decides.{Decides-eqb}
use Rattle.std.proofs.lemmas.Int.{ints}
use Rattle.std.proofs.lemmas.List.{append_cancel_left, drop_at, take_rest}
use Rattle.std.proofs.lemmas.Slice.Eq.{starts_is}
use Rattle.num_format_text.specs.Format.{FormatData}
use Rattle.num_format_int.specs.Digits.{digits}
use Rattle.num_format_int.specs.Grouped.{grouped}
use Rattle.num_format_int.specs.Groups.{last_digits, plain}
use Rattle.num_format_int.specs.Kind.{signed_number}
use Rattle.num_format_int.proofs.DigitLemmas.{digits-small}
use Rattle.num_format_int.proofs.GroupedLemmas.{grouped-Posix, grouped-short}
use Rattle.num_format_parsing.specs.Reading.{is_negative_text}
use Rattle.num_format_parsing.specs.Shapes.{HasPlainSymbols, HasSign, byte_digits}
use Rattle.num_format_parsing.specs.Strict.{IsCanonical, begins, unexpected, ungrouped, with_separators, without_separators}
use Rattle.num_format_parsing.proofs.CanonicalLemmas.{body-told, signed-abs, signed-sign, sign-behind, unexpected-none}
use Rattle.num_format_decimal.specs.declared.parser.Fault.{Fault}
use Rattle.num_format_decimal.specs.declared.parser.Fault.TheVariants.{TooLarge, NotCanonical}
use Rattle.num_format_decimal.specs.declared.decimal.TheConstants.{MAX_SCALE}
use Rattle.num_format_decimal.specs.FixedPoint.{FixedPoint, fixed_point}
use Rattle.num_format_decimal.specs.Marks.{IsPlainFormat, MarksDecimals}
use Rattle.num_format_decimal.specs.Parsing.{IsDecimalOutOfRange, ParsesDecimal, IsCanonicalDecimal}
use Rattle.num_format_decimal.specs.Shapes.{HasAmount, HasReading, IsAmount, IsCut, IsSigned, tail_digits}
use Rattle.num_format_decimal.specs.Text.{mark_at}
use Rattle.num_format_decimal.specs.Values.{HasUnits}
use Rattle.num_format_decimal.proofs.MarkLemmas.{tail-cut, tail-signed, tells-signed, tells-canonical_decimal}
use Rattle.num_format_decimal.proofs.MarkLemmas.{plain-from_marks}
use Rattle.num_format_decimal.proofs.ScaleLemmas.{grown}
use Rattle.num_format_decimal.proofs.CanonicalLemmas.{amount-before, ends-read, signed-canonical, canonical-signed}
use Rattle.num_format_decimal.proofs.TextLemmas.{length-plain, mark-some}
use Rattle.num_format_parsing.proofs.UnreadLemmas.{begins-append, begins-split}
use Rattle.num_format_parsing.proofs.SymbolLemmas.{some_first}

-- a number is an amount
pub amount_of : (f : FormatData) (t : List ℕ) (z : ℤ) → IsCanonical f t z → IsAmount f t (is_negative z) (unsigned_abs z)
amount_of f t z (with_separators same) = record { grouping = f.grouping; either = inl refl; text = same }
amount_of f t z (without_separators same) = record { grouping = (ungrouped f).grouping; either = inr refl; text = same }

pub signed_amount : (f : FormatData) (t : List ℕ) (b : Bool) (start n : ℕ) → HasSign f t b start → IsCanonical f t (signed_number b n)
    → IsAmount f t b n
signed_amount f t b start n sign is_canonical =
    let z = signed_number b n in
    rw (body-told f t b start z sign is_canonical).sign (rw (signed-abs b n) at (amount_of f t z is_canonical))

pub plain_amount : (f : FormatData) (t : List ℕ) (b : Bool) (start n : ℕ) → HasSign f t b start → drop start t ≡ plain (digits n)
    → IsAmount f t b n
plain_amount f t b start n sign same = record {
  grouping = (ungrouped f).grouping;
  either = inr refl;
  text = cc (sign-behind f t b start sign, grouped-Posix f.separator (digits n));
}

-- and an amount is a number, unless it is zero with a sign
number_of : (f : FormatData) (t : List ℕ) (b : Bool) (n : ℕ) → (b ≡ true → 0 < n) → IsAmount f t b n → IsCanonical f t (signed_number b n)
number_of f t b n some amount =
    elim amount.either [
      | inl same ↦ with_separators (cc (signed-sign b n some, signed-abs b n))
      | inr same ↦ without_separators (cc (signed-sign b n some, signed-abs b n))
    ]

-- a text that is canonical for a decimal without decimals has no unexpected byte
pub expected-whole : (f : FormatData) (t : List ℕ) (d : FixedPoint) → HasPlainSymbols f → d.scale ≡ 0 → IsCanonicalDecimal f t d
    → unexpected f t ≡ []
expected-whole f t d symbols whole is_canonical =
    let b = is_negative d.units in
    let n = unsigned_abs d.units / 10 ^ 0 in
    let signed = subst (IsSigned f t b (unsigned_abs d.units)) whole (signed-canonical f t d is_canonical) in
    unexpected-none f t (signed_number b n) symbols
    (number_of f t b n (λ negative. omega (arith, ints))
    (subst (λ x. IsAmount f x b n) (sym (signed.text ∙ append-nil signed.whole)) signed.amount))

-- a text that is canonical for no number, and is no zero with a sign, is no amount
pub no_amount : (f : FormatData) (t : List ℕ) (b : Bool) (start : ℕ) → HasSign f t b start → ¬ (drop start t ≡ 48 ∷ [])
    → ((z : ℤ) → ¬ (IsCanonical f t z)) → (c : Bool) (n : ℕ) → ¬ (IsAmount f t c n)
no_amount f t b start sign other none false n amount = none (signed_number false n) (number_of f t false n (λ wrong. absurd (cc)) amount)
no_amount f t b start sign other none true (suc n) amount = none (signed_number true (suc n))
    (number_of f t true (suc n) (λ same. omega arith) amount)
no_amount f t b start sign other none true zero amount =
    let minus = f.minus_sign in
    let text : t ≡ minus ++ (48 ∷ []) = amount.text ∙ ap (λ xs. minus ++ xs)
    (ap (grouped amount.grouping f.separator) (digits-small 0 (omega arith))
    ∙ grouped-short amount.grouping f.separator (0 ∷ []) (omega arith)) in
    let negative : b ≡ true = sign.tested ∙ (starts_is Decides-eqb t minus (is_negative_text f t) refl).1 (48 ∷ []) text in
    other (append_cancel_left minus _ _ (sym (sign-behind f t b start sign
    ∙ ap (λ (c : Bool). (if c then minus else []) ++ drop start t) negative) ∙ text))

-- what stands before a mark, the mark, and what follows
pub mark_split : (mark t : List ℕ) (place end : ℕ) → begins mark (drop place t) ≡ true → place + length mark ≡ end
    → t ≡ take place t ++ (mark ++ drop end t)
mark_split mark t place end begin after =
    cc (take-append-drop place t, begins-split mark (drop place t) begin, drop-drop (length mark) place t)

-- the mark stands before the decimals that a text has
module _ (f : FormatData) (t : List ℕ) (d : FixedPoint) (p : IsPlainFormat f) (some : 0 < d.scale)
    (is_canonical : IsCanonicalDecimal f t d) where
  pub scale_counted : d.scale ≡ tail_digits t
  scale_counted = sym (tail-signed f t (is_negative d.units) (unsigned_abs d.units) d.scale p some (signed-canonical f t d is_canonical))

  parts : (front : List ℕ) × (ds : List ℕ) × (length ds ≡ d.scale) × (t ≡ front ++ (f.decimal ++ ds))
  parts =
      let signed = signed-canonical f t d is_canonical in
      let ds = plain (last_digits d.scale (unsigned_abs d.units)) in
      (signed.whole, ds, length-plain d.scale (unsigned_abs d.units), cc (signed.text, mark-some f d.scale some))

  long : length parts.0 + length f.decimal + d.scale ≡ length t
  long = omega (arith, ap length parts.3, length-append parts.0 (f.decimal ++ parts.1), length-append f.decimal parts.1, parts.2)

  pub mark_fits : length f.decimal + d.scale ≤ length t
  mark_fits = omega (arith, long)

  pub mark_there : (place : ℕ) → place + length f.decimal + d.scale ≡ length t → begins f.decimal (drop place t) ≡ true
  mark_there place all =
      let front : length parts.0 ≡ place = omega (arith, long, all) in
      begins-append f.decimal (drop place t) parts.1 (some_first f.decimal p.marks.mark.given)
      (ap (drop place) parts.3 ∙ drop_at parts.0 (f.decimal ++ parts.1) place front)

-- so no text is canonical for a decimal with decimals, if they are too few or too many, or the mark does not stand before them
module _ (f : FormatData) (t : List ℕ) (count : ℕ) (p : IsPlainFormat f) (value : count ≡ tail_digits t) where
  pub no_scale : (count ≡ 0) ⊎ (MAX_SCALE < count) → (d : FixedPoint) → 0 < d.scale → d.scale ≤ MAX_SCALE → ¬ (IsCanonicalDecimal f t d)
  no_scale off d some few is_canonical = omega (arith, scale_counted f t d p some is_canonical)

  pub no_room : length t < length f.decimal + count → (d : FixedPoint) → 0 < d.scale → d.scale ≤ MAX_SCALE → ¬ (IsCanonicalDecimal f t d)
  no_room short d some few is_canonical =
      omega (arith, scale_counted f t d p some is_canonical, mark_fits f t d p some is_canonical)

  pub no_mark : (place : ℕ) → place + length f.decimal + count ≡ length t → begins f.decimal (drop place t) ≡ false → (d : FixedPoint)
      → 0 < d.scale → d.scale ≤ MAX_SCALE → ¬ (IsCanonicalDecimal f t d)
  no_mark place all other d some few is_canonical =
      let counted = scale_counted f t d p some is_canonical in
      both_ways _ other (mark_there f t d p some is_canonical place (omega (arith, counted, all)))

-- a number that is no `i128` is none with decimals, and is not zero
grows : (b : Bool) (m n : ℕ) → m ≤ n → ¬ (FitsSigned w128 (signed_number b m)) → ¬ (FitsSigned w128 (signed_number b n))
grows b m n more wrong fits = grind (arith, ints)

some_large : (b : Bool) (n : ℕ) → ¬ (FitsSigned w128 (signed_number b n)) → b ≡ true → 0 < n
some_large b n wrong negative = grind (arith, ints)

module _ (f : FormatData) (whole decimals : List ℕ) (all : list_all is_ascii_digit decimals ≡ true)
    (few : length decimals ≤ MAX_SCALE) where
  -- the number that is written before the mark and after it
  abbrev joined : ℕ → ℕ
  joined units = units * 10 ^ length decimals + number_from_digits 10 (byte_digits decimals)

  abbrev text : List ℕ
  text = whole ++ (mark_at f (length decimals) ++ decimals)

  parts_signed : (b : Bool) (n units : ℕ) → IsAmount f whole b units → n ≡ joined units → IsSigned f text b n (length decimals)
  parts_signed b n units amount sum =
      let read = ends-read decimals units n all sum in
      record {
        whole = whole;
        amount = rw read.whole amount;
        text = ap (λ ds. whole ++ (mark_at f (length decimals) ++ ds)) read.digits;
      }

  pub parts_read : MarksDecimals f → (b : Bool) (n units : ℕ) → IsAmount f whole b units → n ≡ joined units → (b ≡ true → 0 < n)
      → (d : FixedPoint) → d ≡ fixed_point (signed_number b n) (length decimals) → HasUnits d → ParsesDecimal f text d
  parts_read marks b n units amount sum some d same fits = record {
    unambiguous = marks;
    canonical = rw same (canonical-signed f text b n (length decimals) some (parts_signed b n units amount sum));
    bound = omega (arith, ap (λ x. x.scale) same, few);
    fits = fits;
  }

  pub parts_large : (b : Bool) (n units : ℕ) → IsAmount f whole b units → n ≡ joined units → ¬ (FitsSigned w128 (signed_number b n))
      → IsDecimalOutOfRange f text
  parts_large b n units amount sum wrong = record {
    decimal = fixed_point (signed_number b n) (length decimals);
    canonical = canonical-signed f text b n (length decimals) (some_large b n wrong) (parts_signed b n units amount sum);
    bound = few;
    wrong = wrong;
  }

  -- a sign before nothing but zeros
  pub parts_zero : (n units : ℕ) → IsAmount f whole true units → n ≡ joined units → n ≡ 0 → IsPlainFormat f → (d : FixedPoint)
      → ¬ (IsCanonicalDecimal f text d)
  parts_zero n units amount sum none p d is_canonical =
      let zero_told = tells-signed f p text true n (length decimals) (parts_signed true n units amount sum) in
      let told = tells-canonical_decimal f text d.units d.scale p is_canonical in
      omega (arith, ints, sym told.sign ∙ zero_told.sign, sym told.magnitude ∙ zero_told.magnitude)

  -- what is before the mark is no amount that is an `i128`
  pub parts_fault : (fault : Fault) → HasAmount f whole (Err fault) → HasReading f text (λ scale. scale ≡ length decimals) (Err fault)
  parts_fault TooLarge large =
      let q = number_from_digits 10 (byte_digits decimals) in
      parts_large large.0 (joined large.1) large.1 large.2 refl
      (grows large.0 large.1 (joined large.1) (grown large.1 (length decimals) q) large.3)
  parts_fault NotCanonical none = λ d long is_canonical.
      let n = unsigned_abs d.units in
      let signed = subst (IsSigned f text (is_negative d.units) n) long (signed-canonical f text d is_canonical) in
      none (is_negative d.units) (n / 10 ^ length decimals) (amount-before f whole decimals (is_negative d.units) n
      (length decimals) signed refl)

-- where no text with decimals is canonical, what was read is what there is
pub reads_either : (f : FormatData) (t : List ℕ) (r : Result FixedPoint Fault)
    → ((d : FixedPoint) → 0 < d.scale → d.scale ≤ MAX_SCALE → ¬ (IsCanonicalDecimal f t d)) → HasReading f t (λ scale. scale ≡ 0) r →
    HasReading f t (λ scale. scale ≤ MAX_SCALE) r
reads_either f t (Ok d) none read = read
reads_either f t (Err TooLarge) none read = read
reads_either f t (Err NotCanonical) none read = λ d few is_canonical.
    elim (cases_lt 0 d.scale) [ inl some ↦ none d some few is_canonical | inr zero_scale ↦ read d (omega (arith, zero_scale)) is_canonical ]

-- where the mark stands, the decimals are the digits after it
module _ (f : FormatData) (t : List ℕ) (place end : ℕ) (cut : IsCut f.decimal t place end) where
  abbrev after : List ℕ
  after = take (length t - end) (drop end t)

  pub cut_length : length after ≡ length t - end
  cut_length = ap length (take_rest t end) ∙ length-drop end t

  cut_text : take place t ++ (mark_at f (length after) ++ after) ≡ t
  cut_text = cc (mark-some f (length after) (omega (arith, cut_length, cut.some)), take_rest t end, cut.text)

  pub cut_reads : (r : Result FixedPoint Fault) → HasReading f (take place t ++ (mark_at f (length after) ++ after)) (λ scale. scale
      ≡ length after) r → HasReading f t (λ scale. scale ≡ length after) r
  cut_reads r read = subst (λ x. HasReading f x (λ scale. scale ≡ length after) r) cut_text read

  pub cut_scale : (d : FixedPoint) → IsPlainFormat f → 0 < d.scale → IsCanonicalDecimal f t d → d.scale ≡ length after
  cut_scale d p some is_canonical =
      scale_counted f t d p some is_canonical ∙ ap tail_digits cut.text ∙ tail-cut f (take place t) (drop end t) p cut.digits
      ∙ sym (ap length (take_rest t end))

  -- so if what the mark cuts off is no decimal, another reading is what there is
  pub cut_either : IsPlainFormat f → HasReading f (take place t ++ (mark_at f (length after) ++ after)) (λ scale. scale ≡ length after)
      (Err NotCanonical) → (r : Result FixedPoint Fault) → HasReading f t (λ scale. scale ≡ 0) r
      → HasReading f t (λ scale. scale ≤ MAX_SCALE) r
  cut_either p none r read = reads_either f t r (λ d some few is_canonical.
      cut_reads (Err NotCanonical) none d (cut_scale d p some is_canonical) is_canonical) read

-- for where a mark stands
pub ruleset marking = (mark_split, take_rest)

pub ruleset joining = (parts_fault, parts_large, parts_read)

pub ruleset readings = (cut_either, reads_either)

pub ruleset amounts = (plain_amount, take_rest)

pub ruleset marks = (plain-from_marks)
