-- Groups of digits, as they are prepended to the digits to their right.
use Rattle.std.specs.Prelude.{◌≡◌, ℕ, zero, suc, ◌+◌, ◌*◌, ◌/◌, ◌%◌, ◌<◌, ◌⊎◌, Bool, true, false, List, [], ◌∷◌, ◌++◌, length, map}
use Rattle.num_format_int.specs.Digits.{digits}
use Rattle.num_format_int.specs.Grouped.{separated}

-- the last k digits of n, with leading zeros where it has fewer
abbrev pub last_digits : ℕ → ℕ → List ℕ
last_digits zero n = []
last_digits (suc k) n = last_digits k (n / 10) ++ (n % 10 ∷ [])

-- digits as text, with nothing between them; 48 is the character 0
abbrev pub plain : List ℕ → List ℕ
plain ds = map (λ d. 48 + d) ds

-- a separator is due before a last group of that many digits, and nowhere in it
pub record HasLastGroup (is_due : ℕ → Bool) (last : ℕ) : Type 0 where
  pub before : is_due last ≡ true
  pub within : (k : ℕ) → k < last → is_due k ≡ false

-- to the left of a separator, the next one is due before a group of that many digits
pub record HasGroups (is_due : ℕ → Bool) (size : ℕ) : Type 0 where
  pub before : (right : ℕ) → is_due right ≡ true → is_due (size + right) ≡ true
  pub within : (right k : ℕ) → is_due right ≡ true → 0 < k → k < size → is_due (k + right) ≡ false

-- a separator is due only before a last group and before groups of that size to its left
pub record HasOnlyGroups (is_due : ℕ → Bool) (last size : ℕ) : Type 0 where
  pub groups : HasGroups is_due size
  pub none : (right : ℕ) → right < last → is_due right ≡ false
  pub step : (right : ℕ) → is_due right ≡ true → (right ≡ last) ⊎ ((fewer : ℕ) × (right ≡ size + fewer) × (is_due fewer ≡ true))

-- the text is the separator that is due to the left of the digits `right`, and these with their separators
pub record BeginsWithSeparator (is_due : ℕ → Bool) (separator right text : List ℕ) : Type 0 where
  pub due : is_due (length right) ≡ true
  pub same : text ≡ separator ++ separated is_due separator right

-- such a text stands before the old one
pub record BeginsBefore (is_due : ℕ → Bool) (separator right old new : List ℕ) : Type 0 where
  pub text : List ℕ
  pub begins : BeginsWithSeparator is_due separator right text
  pub same : new ≡ text ++ old

-- digits that are whole groups were prepended, with their separators
abbrev pub PrependsGroups : (size : ℕ) → (ds separator before after : List ℕ) → Type 0
PrependsGroups size ds separator before after =
    (is_due : ℕ → Bool) (right old : List ℕ) → HasGroups is_due size → BeginsBefore is_due separator right old before
    → BeginsBefore is_due separator (ds ++ right) old after

-- the digits of n but for those of `first` were prepended in whole groups
pub record PrependsAllBut (size n first : ℕ) (separator before after : List ℕ) : Type 0 where
  pub low : List ℕ
  pub count : ℕ
  pub together : digits n ≡ digits first ++ low
  pub whole : length low ≡ size * count
  pub text : PrependsGroups size low separator before after

-- digits were prepended, of which the first group may be shorter, with separators between the groups
abbrev pub PrependsDigits : (size : ℕ) → (ds separator before after : List ℕ) → Type 0
PrependsDigits size ds separator before after =
    (is_due : ℕ → Bool) (right old : List ℕ) → HasGroups is_due size → BeginsBefore is_due separator right old before
    → after ≡ separated is_due separator (ds ++ right) ++ old

-- before the old text stand the digits with separators before a last group and before groups of that size, wherever that is where they are
-- due
abbrev pub IsGroupedBefore : (last size : ℕ) → (separator ds old new : List ℕ) → Type 0
IsGroupedBefore last size separator ds old new =
    (is_due : ℕ → Bool) → HasLastGroup is_due last → HasGroups is_due size → new ≡ separated is_due separator ds ++ old
