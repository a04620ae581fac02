-- What a row of the table says.
use Rattle.std.specs.Prelude.{◌≡◌, ◌≢◌, ◌<◌, ◌≤◌, ℕ, List, [], length, slice_index_or}
use Rattle.std.specs.List.{AllZip}
use Rattle.std.specs.Ordering.{nat_cmp}
use Rattle.std.specs.declared.cmp.Ordering.TheVariants.{Less}
use Rattle.std.specs.Cmp.Lexicographic.{slice_cmp}
use Rattle.num_format_cldr.specs.declared.record.Row.{Row}
use Rattle.num_format_text.specs.Characters.{HasOnly, minus_sign_characters, separator_characters}
use Rattle.num_format_text.specs.declared.capacities.TheConstants.{MAX_DEC_LEN, MAX_INF_LEN, MAX_MIN_LEN, MAX_NAN_LEN, MAX_PLUS_LEN}
use Rattle.num_format_text.specs.declared.capacities.TheConstants.{MAX_SEP_LEN}

-- a line of the table: the fields of a `Row`, with each text as the list of its bytes
pub record Entry : Type 0 where
  pub name : List ℕ
  pub dec : List ℕ
  pub group : ℕ
  pub inf : List ℕ
  pub min : List ℕ
  pub nan : List ℕ
  pub plus : List ℕ
  pub sep : List ℕ

-- the entry at each place past the end of the table
abbrev pub no_entry : Entry
no_entry = record { name = []; dec = []; group = 0; inf = []; min = []; nan = []; plus = []; sep = [] }

-- a row has the texts and the group of an entry
pub record Shows (row : Row) (e : Entry) : Type 0 where
  pub name : row.name.now ≡ e.name
  pub dec : row.dec.now ≡ e.dec
  pub group : row.group ≡ e.group
  pub inf : row.inf.now ≡ e.inf
  pub min : row.min.now ≡ e.min
  pub nan : row.nan.now ≡ e.nan
  pub plus : row.plus.now ≡ e.plus
  pub sep : row.sep.now ≡ e.sep

-- rows show entries, place by place
pub record ShowsAll (rows : List Row) (entries : List Entry) : Type 0 where
  pub each : AllZip Shows rows entries

-- texts are within their capacities, `group` is a grouping, and `min` and `sep` are not empty and
-- have only the characters of minus signs and of separators
pub record IsWellFormed (e : Entry) : Type 0 where
  pub dec : length e.dec ≤ MAX_DEC_LEN
  pub group : e.group ≤ 2
  pub inf : length e.inf ≤ MAX_INF_LEN
  pub min : length e.min ≤ MAX_MIN_LEN
  pub nan : length e.nan ≤ MAX_NAN_LEN
  pub plus : length e.plus ≤ MAX_PLUS_LEN
  pub sep : length e.sep ≤ MAX_SEP_LEN
  pub min_given : e.min ≢ []
  pub min_characters : HasOnly minus_sign_characters e.min
  pub sep_given : e.sep ≢ []
  pub sep_characters : HasOnly separator_characters e.sep

-- each text of a list is less than every later one, in the order of `&str`, which is that of bytes
abbrev pub Rises : List (List ℕ) → Type 0
Rises texts =
    (j k : ℕ) → j < k → k < length texts →
    slice_cmp nat_cmp (slice_index_or texts j []) (slice_index_or texts k []) ≡ Less
