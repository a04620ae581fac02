-- Laws of the digits and the text of a number.
use Rattle.std.specs.Prelude.{◌≡◌, ℕ, ◌+◌, ◌-◌, ◌*◌, ◌/◌, ◌%◌, ◌^◌, ◌<◌, ◌≤◌, ℤ, pos, negsuc, ◌≤ℤ◌, unsigned_abs, List, [], ◌∷◌, ◌++◌}
use Rattle.std.specs.Prelude.{length, if◌then◌else◌}
use Rattle.std.specs.Int.{is_negative}
use Rattle.std.specs.Int.Digits.{number_from_digits}
use Rattle.num_format_text.specs.declared.capacities.TheConstants.{MAX_MIN_LEN, MAX_SEP_LEN}
use Rattle.num_format_text.specs.declared.grouping.Grouping.TheVariants.{Indian}
use Rattle.num_format_text.specs.Format.{FormatData, IsWithinCapacity}
use Rattle.num_format_int.specs.declared.buffer.TheConstants.{MAX_BUF_LEN}
use Rattle.num_format_int.specs.Digits.{digits}
use Rattle.num_format_int.specs.Grouped.{separators}
use Rattle.num_format_int.specs.Text.{body_of, text_of}

-- which digits a number has, and that they write it
pub record DigitsLaw : Type 0 where
  pub one : (n : ℕ) → n < 10 → digits n ≡ n ∷ []
  pub more : (n : ℕ) → 10 ≤ n → digits n ≡ digits (n / 10) ++ (n % 10 ∷ [])
  pub written : (n : ℕ) → number_from_digits 10 (digits n) ≡ n
  pub leading_zero : (ds : List ℕ) → number_from_digits 10 (0 ∷ ds) ≡ number_from_digits 10 ds

-- the length of a text: the minus sign, the digits, and the separators times their length
abbrev pub LengthLaw : Type 0
LengthLaw = (f : FormatData) (z : ℤ) →
    let count : ℕ = length (digits (unsigned_abs z)) in
    length (text_of f z) ≡ length (if is_negative z then f.minus_sign else []) + count + separators f.grouping count * length f.separator

-- no text of a number from -2 ^ 127 to 2 ^ 128 - 1 has more than `MAX_BUF_LEN` bytes, and that of -2 ^ 127 can have as many
pub record BoundLaw : Type 0 where
  pub bound : (f : FormatData) (z : ℤ) → IsWithinCapacity f → negsuc (2 ^ 127 - 1) ≤ℤ z → z ≤ℤ pos (2 ^ 128 - 1)
      → length (text_of f z) ≤ MAX_BUF_LEN
  pub reached : (f : FormatData) → f.grouping ≡ Indian → length f.separator ≡ MAX_SEP_LEN → length f.minus_sign ≡ MAX_MIN_LEN
      → length (text_of f (negsuc (2 ^ 127 - 1))) ≡ MAX_BUF_LEN

-- the digits and separators of a number begin with its first digit and end with its last: no separator leads or trails
pub record EndsLaw : Type 0 where
  pub begins : (f : FormatData) (n first : ℕ) (others : List ℕ) → digits n ≡ first ∷ others
      → (rest : List ℕ) × (body_of f n ≡ (48 + first) ∷ rest)
  pub ends : (f : FormatData) (n last : ℕ) (others : List ℕ) → digits n ≡ others ++ (last ∷ [])
      → (before : List ℕ) × (body_of f n ≡ before ++ ((48 + last) ∷ []))
