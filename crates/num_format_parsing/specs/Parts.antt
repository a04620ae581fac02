-- What is read of a text without its minus sign.
use Rattle.std.specs.Prelude.{◌≡◌, ℕ, zero, suc, ℤ, ◌+◌, ◌*◌, ◌%◌, ◌^◌, ◌<◌, ◌≤◌, ◌⊎◌, Bool, true, false, List, [], ◌++◌, All, length, take}
use Rattle.std.specs.Prelude.{drop, slice_index, Result, MatchResult, ⊤}
use Rattle.std.specs.Char.{is_ascii_digit}
use Rattle.std.specs.Int.Digits.{number_from_digits}
use Rattle.std.specs.List.{list_all}
use Rattle.num_format_text.specs.declared.grouping.Grouping.{Grouping}
use Rattle.num_format_text.specs.Format.{FormatData}
use Rattle.num_format_int.specs.Grouped.{grouped}
use Rattle.num_format_int.specs.Groups.{plain}
use Rattle.num_format_int.specs.Kind.{Kind, IsValueOf, signed_number}
use Rattle.num_format_parsing.specs.Reading.{is_negative_text}
use Rattle.num_format_parsing.specs.Shapes.{byte_digits, HasPlainSymbols}
use Rattle.num_format_parsing.specs.Strict.{IsCanonical, IsCause}
use Rattle.num_format_parsing.specs.declared.reading.Reading.{Reading}
use Rattle.num_format_parsing.specs.declared.reading.Reading.TheVariants.{Number, TooLarge, NotCanonical}
use Rattle.num_format_parsing.specs.declared.error.StrictError.{StrictError}

-- the number that the digits among bytes write
abbrev pub number_in : List ℕ → ℕ
number_in t = number_from_digits 10 (byte_digits t)

-- the digits among bytes are so many, and write n modulo a bound
pub record HasDigits (bound : ℕ) (t : List ℕ) (count n : ℕ) : Type 0 where
  pub digit_count : count ≡ length (byte_digits t)
  pub number : n ≡ number_in t % bound

-- bytes begin with so many digits, and then with another byte
pub record BeginsWithDigits (t : List ℕ) (count : ℕ) : Type 0 where
  pub some : 0 < count
  pub inside : count < length t
  pub digits : list_all is_ascii_digit (take count t) ≡ true
  pub stop : is_ascii_digit (slice_index t count) ≡ false

-- bytes are digits, with the separators of a grouping or without any
abbrev pub IsBody : Grouping → List ℕ → List ℕ → Type 0
IsBody g s t = (t ≡ grouped g s (byte_digits t)) ⊎ (t ≡ plain (byte_digits t))

-- bytes are a separator, so many digits, and the rest
pub record BeginsWithGroup (s : List ℕ) (count : ℕ) (t rest : List ℕ) : Type 0 where
  pub group : List ℕ
  pub below : All (λ d. d < 10) group
  pub long : length group ≡ count
  pub same : t ≡ s ++ (plain group ++ rest)

-- bytes begin with a separator and so many digits, and those digits after the digits of n write `more`, modulo a bound
pub record AppendsGroup (bound : ℕ) (s : List ℕ) (count : ℕ) (t : List ℕ) (n more : ℕ) : Type 0 where
  pub found : BeginsWithGroup s count t (drop (length s + count) t)
  pub number : more ≡ (n * 10 ^ count + number_from_digits 10 found.group) % bound

-- bytes are so many groups of a size, and then the last, with a separator before each
abbrev pub AreGroups : (last size : ℕ) → List ℕ → ℕ → List ℕ → Type 0
AreGroups last size s zero t = BeginsWithGroup s last t []
AreGroups last size s (suc count) t = (rest : List ℕ) × BeginsWithGroup s size t rest × AreGroups last size s count rest

-- bytes are a first group, which may have fewer digits than the others, and these
pub record IsInGroups (last size : ℕ) (s t : List ℕ) : Type 0 where
  pub first : List ℕ
  pub some : 0 < length first
  pub few : length first ≤ size
  pub below : All (λ d. d < 10) first
  pub rest : List ℕ
  pub same : t ≡ plain first ++ rest
  pub count : ℕ
  pub groups : AreGroups last size s count rest

-- what was read of digits with their separators; a number for which `out` holds is too large
abbrev pub HasBody : (ℕ → Type 0) → Grouping → List ℕ → List ℕ → Reading → Type 0
HasBody out g s t (Number n) = IsBody g s t × (n ≡ number_in t)
HasBody out g s t TooLarge = IsBody g s t × out (number_in t)
HasBody out g s t NotCanonical = ¬ (IsBody g s t)

-- what was read of a text whose sign is known: a number for which it is canonical, a value of the kind or not, or none
abbrev pub HasReading : Kind → FormatData → List ℕ → Bool → Reading → Type 0
HasReading k f t negative (Number n) = IsCanonical f t (signed_number negative n)
HasReading k f t negative TooLarge = (n : ℕ) × (¬ (IsValueOf k (signed_number negative n))) × IsCanonical f t (signed_number negative n)
HasReading k f t negative NotCanonical = (z : ℤ) → ¬ (IsCanonical f t z)

-- the same of a text whose sign is not known before; where it is said to be canonical for no number, nothing is known of it
abbrev pub IsCanonicalReading : Kind → FormatData → List ℕ → Bool → Reading → Type 0
IsCanonicalReading k f t negative NotCanonical = ⊤
IsCanonicalReading k f t negative read = HasPlainSymbols f × (negative ≡ is_negative_text f t) × HasReading k f t negative read

-- what is returned: a number for which the text is canonical and that is a value of the kind, or the cause
abbrev pub IsJudged : {X : Type 0} → Kind → (X → ℤ) → FormatData → List ℕ → Result X StrictError → Type 0
IsJudged k value f t result = MatchResult result (λ n. IsCanonical f t (value n) × IsValueOf k (value n)) (λ e. IsCause k f t e)
