-- The data of a format.
use Rattle.std.specs.Prelude.{ℕ, ◌≤◌, List, length, IsUtf8}
use Rattle.num_format_text.specs.declared.grouping.Grouping.{Grouping}

-- what the seven methods of a format return; each text is the list of its bytes
pub record FormatData : Type 0 where
  pub decimal : List ℕ
  pub grouping : Grouping
  pub infinity : List ℕ
  pub minus_sign : List ℕ
  pub nan : List ℕ
  pub plus_sign : List ℕ
  pub separator : List ℕ

-- the most bytes of each text
pub record Capacities : Type 0 where
  pub decimal : ℕ
  pub infinity : ℕ
  pub minus_sign : ℕ
  pub nan : ℕ
  pub plus_sign : ℕ
  pub separator : ℕ

-- the capacities, which are those of the Rust crate num-format
abbrev pub capacities : Capacities
capacities = record { decimal = 8; infinity = 128; minus_sign = 8; nan = 64; plus_sign = 8; separator = 8 }

-- each text is within its capacity
pub record IsWithinCapacity (f : FormatData) : Type 0 where
  pub decimal : length f.decimal ≤ capacities.decimal
  pub infinity : length f.infinity ≤ capacities.infinity
  pub minus_sign : length f.minus_sign ≤ capacities.minus_sign
  pub nan : length f.nan ≤ capacities.nan
  pub plus_sign : length f.plus_sign ≤ capacities.plus_sign
  pub separator : length f.separator ≤ capacities.separator

-- each text is UTF-8
pub record HasUtf8Texts (f : FormatData) : Type 0 where
  pub decimal : IsUtf8 f.decimal
  pub infinity : IsUtf8 f.infinity
  pub minus_sign : IsUtf8 f.minus_sign
  pub nan : IsUtf8 f.nan
  pub plus_sign : IsUtf8 f.plus_sign
  pub separator : IsUtf8 f.separator
