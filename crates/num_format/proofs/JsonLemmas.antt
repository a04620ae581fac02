-- What the JSON value of a buffer, of a format or of a locale holds.
use Rattle.num_format_text.specs.declared.capacities.TheConstants.{MAX_DEC_LEN, MAX_INF_LEN, MAX_MIN_LEN, MAX_NAN_LEN, MAX_PLUS_LEN}
use Rattle.num_format_text.specs.declared.capacities.TheConstants.{MAX_SEP_LEN}
use Rattle.std.proofs.Common.{◌≡◌, ℕ, suc, ◌+◌, ◌/◌, ◌<◌, ◌≤◌, nat_lt, nat_le, Bool, bytes_eq, true, false, List, [], ◌∷◌, ◌++◌, map}
use Rattle.std.proofs.Common.{length, codes, Option, Some, None, IfSome, Ok, IsUtf8, refl, ap, inl, inr, subst, arith}
use Rattle.std.proofs.lemmas.Bool.{and_parts, both_ways, cases_lt, cond_both, false_from_ne_true, le-leb, le-ltb, lt-ltb, ltb-true}
use Rattle.std.proofs.lemmas.Str.{IsUtf8-from_is_utf8, is_utf8-from_IsUtf8}
use Rattle.std.proofs.Output.{has_written_styled_append, has_written_styled_of_eq}
use Rattle.std.specs.Fmt.{HasWrittenStyled, decimal, digits}
use Rattle.std.specs.declared.fmt.Formatter.{Formatter}
use Rattle.std.proofs.lemmas.List.Sums.{fails_before_first, passes_at_first}
use Rattle.std.proofs.lemmas.Slice.Eq.{bytes_eq-Decides}
use lib.Dec.{ltb}
use lib.Utf8.{encode, encodes, next, scalar, scalars, scalar_cases}
use Rattle.std.specs.Str.{is_utf8}
use Rattle.std.specs.List.{position_or_len}
use Rattle.serde_json.specs.Data.{Data, number, unsigned}
use Rattle.serde_json.specs.Events.{items_len}
use Rattle.serde_json.specs.View.{items_of}
use Rattle.num_format_text.specs.declared.grouping.Grouping.{Grouping}
use Rattle.num_format_text.specs.declared.grouping.Grouping.TheVariants.{Standard, Indian, Posix, Myriad, Sparse}
use Rattle.num_format_text.specs.GroupingNames.{grouping_name, grouping_named}
use Rattle.num_format_text.specs.Format.{FormatData, IsWithinCapacity}
use Rattle.num_format_int.specs.declared.buffer.TheConstants.{MAX_BUF_LEN}
use Rattle.num_format.specs.Json.{buffer_in, buffer_json, bytes_in, format_in, format_json, locale_in, locale_json, locale_named}
use Rattle.num_format_cldr.specs.declared.TheConstants.{LEN}
use Rattle.num_format_cldr.specs.Table.{table_names}
use Rattle.num_format_locale.specs.Names.{variant_name, variant_name_of}
use Rattle.num_format_locale.proofs.NameLemmas.{length-table_names}
use Rattle.num_format_locale.proofs.VariantLemmas.{variants_differ}

-- the message of an array that is too long has the constant in decimal
pub most_items : decimal MAX_BUF_LEN ≡ codes "191"
unfolding digits
most_items = refl

pub items_len-items_of : {X : Type 0} (f : X → Data) (xs : List X) → items_len (items_of (map f xs)) ≡ length xs
items_len-items_of f [] = refl
items_len-items_of f (x ∷ xs) = ap suc (items_len-items_of f xs)

pub not_utf8 : (bs : List ℕ) → ¬ IsUtf8 bs → is_utf8 bs ≡ false
not_utf8 bs refused = false_from_ne_true (is_utf8 bs) (λ valid. refused (IsUtf8-from_is_utf8 bs valid))

-- how many items an array has, and whether bytes are UTF-8
pub ruleset json_steps = (items_len-items_of, is_utf8-from_IsUtf8, not_utf8)

-- two writes in a row to a formatter with any options, as one write
pub two_writes : {W : Type 0} (took : W → List ℕ → W → Type 0) (f g h : Formatter W) (a b all : List ℕ) → HasWrittenStyled took f a g
    → HasWrittenStyled took g b h
    → a ++ b ≡ all → HasWrittenStyled took f all h
two_writes took f g h a b all first second is = has_written_styled_of_eq took _ _ all _ is
    (has_written_styled_append took _ _ _ _ _ first second)

-- an array of these bytes holds them
abbrev AreHeld : List ℕ → Type 0
AreHeld bytes = bytes_in (items_of (map (λ byte. number (unsigned byte)) bytes)) ≡ Some bytes

byte_held : (byte : ℕ) (bytes : List ℕ) → byte < 256 → AreHeld bytes → AreHeld (byte ∷ bytes)
byte_held byte bytes small held =
    let fits : nat_lt byte 256 ≡ true = lt-ltb byte 256 small in
    rw (fits, held)

continuation_held : (bits : ℕ) (bytes : List ℕ) → AreHeld bytes → AreHeld (next bits ∷ bytes)
continuation_held bits bytes held = byte_held (next bits) bytes (omega arith) held

scalar_limit : (c : ℕ) → scalar c ≡ true → c < 1114112
scalar_limit c valid = elim (scalar_cases c valid) [ inl low ↦ omega (arith, low) | inr high ↦ high.1 ]

char_held : (c : ℕ) (bytes : List ℕ) → scalar c ≡ true → AreHeld bytes → AreHeld (encode c ++ bytes)
unfolding encode
char_held c bytes valid held =
    let P : List ℕ → Type 0 = λ char. AreHeld (char ++ bytes) in
    let last = continuation_held c bytes held in
    let last_two = continuation_held (c / 64) (next c ∷ bytes) last in
    let last_three = continuation_held (c / 4096) (next (c / 64) ∷ next c ∷ bytes) last_two in
    cond_both (ltb c 128) _ _ P (λ e. byte_held c _ (omega (arith, ltb-true c 128 e)) held)
    (λ _. cond_both (ltb c 2048) _ _ P (λ e. byte_held (192 + c / 64) _ (omega (arith, ltb-true c 2048 e)) last)
    (λ _. cond_both (ltb c 65536) _ _ P (λ e. byte_held (224 + c / 4096) _ (omega (arith, ltb-true c 65536 e)) last_two)
    (λ _. byte_held (240 + c / 262144) _ (omega (arith, scalar_limit c valid)) last_three)))

chars_held : (cs : List ℕ) → scalars cs ≡ true → AreHeld (encodes cs)
chars_held [] valid = refl
chars_held (c ∷ cs) valid = let parts = and_parts (scalar c) (scalars cs) valid in char_held c (encodes cs) parts.0 (chars_held cs parts.1)

pub buffer_in-buffer_json : (text : List ℕ) → IsUtf8 text → length text ≤ MAX_BUF_LEN → buffer_in (buffer_json text) ≡ Ok text
buffer_in-buffer_json text utf8 fits =
    let few : nat_lt MAX_BUF_LEN (length text) ≡ false = le-ltb MAX_BUF_LEN (length text) fits in
    let held : AreHeld text = subst AreHeld utf8.1.1 (chars_held utf8.0 utf8.1.0) in
    rw (items_len-items_of, few, held, is_utf8-from_IsUtf8 text utf8)

grouping_named-grouping_name : (g : Grouping) → grouping_named (grouping_name g) ≡ Some g
grouping_named-grouping_name Standard = refl
grouping_named-grouping_name Indian = refl
grouping_named-grouping_name Posix = refl
grouping_named-grouping_name Myriad = refl
grouping_named-grouping_name Sparse = refl

pub format_in-format_json : (f : FormatData) → IsWithinCapacity f → format_in (format_json f) ≡ Ok f
format_in-format_json f within =
    let decimal : nat_le (length f.decimal) MAX_DEC_LEN ≡ true = le-leb _ _ within.decimal in
    let infinity : nat_le (length f.infinity) MAX_INF_LEN ≡ true = le-leb _ _ within.infinity in
    let minus_sign : nat_le (length f.minus_sign) MAX_MIN_LEN ≡ true = le-leb _ _ within.minus_sign in
    let nan : nat_le (length f.nan) MAX_NAN_LEN ≡ true = le-leb _ _ within.nan in
    let plus_sign : nat_le (length f.plus_sign) MAX_PLUS_LEN ≡ true = le-leb _ _ within.plus_sign in
    let separator : nat_le (length f.separator) MAX_SEP_LEN ≡ true = le-leb _ _ within.separator in
    rw (decimal, grouping_named-grouping_name f.grouping, infinity, minus_sign, nan, plus_sign, separator)

-- whether a text is the name of a variant
abbrev names_variant : List ℕ → List ℕ → Bool
names_variant text name = bytes_eq text (variant_name name)

none_named : (text : List ℕ) (r : Option ℕ) → LEN ≤ position_or_len (names_variant text) table_names → IfSome r (λ place. place < LEN)
    → IfSome r (λ place. text ≡ variant_name_of place) → r ≡ None
none_named text None past within named = refl
none_named text (Some place) past within named =
    absurd (both_ways _ (fails_before_first (names_variant text) table_names place [] (omega arith))
    ((bytes_eq-Decides text (variant_name_of place)).1 named))

-- what a look-up of the name of a variant returns
pub locale_named_is : (text : List ℕ) (r : Option ℕ) → ((place : ℕ) → place < LEN → text ≡ variant_name_of place → r ≡ Some place)
    → IfSome r (λ place. place < LEN) → IfSome r (λ place. text ≡ variant_name_of place) → r ≡ locale_named text
locale_named_is text r found within named =
    let first : ℕ = position_or_len (names_variant text) table_names in
    elim (cases_lt first LEN) [
      | inl here ↦
          let inside : nat_lt first (length table_names) ≡ true = lt-ltb first (length table_names) (omega (arith, length-table_names)) in
          let passes = passes_at_first (names_variant text) table_names [] (omega (arith, length-table_names)) in
          rw inside (found first here ((bytes_eq-Decides text (variant_name_of first)).0 passes))
      | inr past ↦
          let outside : nat_lt first (length table_names) ≡ false = le-ltb first (length table_names) (omega (arith, length-table_names)) in
          rw outside (none_named text r past within named)
    ]

pub locale_in-locale_json : (place : ℕ) → place < LEN → locale_in (locale_json place) ≡ Ok place
locale_in-locale_json place within =
    let named : Some place ≡ locale_named (variant_name_of place) = locale_named_is (variant_name_of place) (Some place)
    (λ other here same. ap Some (variants_differ place other within here same)) within refl in
    rw (← named)
