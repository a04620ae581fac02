-- How much an error keeps of the text that was refused.
use Rattle.num_format_text.specs.declared.capacities.TheConstants.{MAX_ERR_LEN}
use Rattle.std.specs.Prelude.{◌≡◌, ℕ, zero, suc, ◌≤◌, nat_le, nat_lt, Bool, not, ◌&&◌, List, ◌++◌, length, take, slice_index, if◌then◌else◌}
use Rattle.std.specs.Prelude.{IsUtf8}

-- whether a byte of UTF-8 continues a character: its two highest bits are 10
abbrev pub is_continuation : ℕ → Bool
is_continuation byte = nat_le 0x80 byte && nat_lt byte 0xc0

-- whether a character of the text begins or ends at a place
abbrev pub is_boundary : List ℕ → ℕ → Bool
is_boundary text place = nat_le place (length text) && not (is_continuation (slice_index text place))

-- the last place up to n where a character begins or ends
abbrev pub last_boundary : List ℕ → ℕ → ℕ
last_boundary text zero = 0
last_boundary text (suc n) = if is_boundary text (suc n) then suc n else last_boundary text n

-- the longest prefix of whole characters that has at most `MAX_ERR_LEN` bytes
unfoldable pub cut_text : List ℕ → List ℕ
cut_text text = take (last_boundary text MAX_ERR_LEN) text

-- of the prefixes of a text that are whole characters and have at most that many bytes, the longest
pub record IsLongestPrefix (most : ℕ) (text prefix : List ℕ) : Type 0 where
  pub begins : (rest : List ℕ) × (text ≡ prefix ++ rest)
  pub whole : IsUtf8 prefix
  pub fits : length prefix ≤ most
  pub longest : (other rest : List ℕ) → text ≡ other ++ rest → IsUtf8 other → length other ≤ most → length other ≤ length prefix

-- what an error keeps of a text is the longest such prefix
abbrev pub CutLaw : Type 0
CutLaw = (text : List ℕ) → IsUtf8 text → IsLongestPrefix MAX_ERR_LEN text (cut_text text)
