-- The text of a field, what is around it, and what a field becomes when its text is replaced.
use Rattle.std.specs.Prelude.{ℕ, ◌-◌, ◌==◌, nat_le, Bool, ◌&&◌, ◌||◌, if◌then◌else◌, is_some, List, [], ◌∷◌, ◌++◌, length, take, drop}
use Rattle.std.specs.Prelude.{slice_index, slice_range}
use Rattle.std.specs.Char.{is_ascii_whitespace}
use Rattle.std.specs.List.{flat_map, list_any, prefix_len, suffix_len}
use Rattle.regroup_core.specs.Fields.{delimiter_of, quotes_of}
use Rattle.regroup_core.specs.Records.{is_quote}
use Rattle.regroup_core.specs.declared.dialect.Dialect.{Dialect}
use Rattle.regroup_core.specs.declared.dialect.Separation.{Separation}

-- how many bytes are before the ASCII whitespace at the end of a text
abbrev pub len_before_blanks : List ℕ → ℕ
len_before_blanks text = length text - suffix_len is_ascii_whitespace text

-- whether a field is in quotes: its first byte is one, and so is the last before the whitespace at its end
abbrev pub is_in_quotes : Separation → List ℕ → Bool
is_in_quotes separation field =
    let len = len_before_blanks field in
    is_some (quotes_of separation)
    && (nat_le 2 len && (is_quote (slice_index field 0) && is_quote (slice_index field (len - 1))))

-- what is in the quotes of a field, or the field if it is in none
abbrev pub content_of : Separation → List ℕ → List ℕ
content_of separation field = if is_in_quotes separation field then slice_range field 1 (len_before_blanks field - 1) else field

-- the whitespace after the quotes of a field, if it is in some
abbrev pub tail_of : Separation → List ℕ → List ℕ
tail_of separation field = if is_in_quotes separation field then drop (len_before_blanks field) field else []

-- a text in three: the ASCII whitespace before it, the text itself, and the whitespace after it
abbrev pub blanks_before : List ℕ → List ℕ
blanks_before text = take (prefix_len is_ascii_whitespace text) text

abbrev pub trimmed : List ℕ → List ℕ
trimmed text = let rest = drop (prefix_len is_ascii_whitespace text) text in take (len_before_blanks rest) rest

abbrev pub blanks_after : List ℕ → List ℕ
blanks_after text = let rest = drop (prefix_len is_ascii_whitespace text) text in drop (len_before_blanks rest) rest

-- whether a field with this byte has to be in quotes
abbrev pub needs_quotes : Dialect → ℕ → Bool
needs_quotes dialect b = is_quote b || (b == 13 || (b == 10 || (b == delimiter_of dialect.separation || b == dialect.line_end)))

-- a text with each quote doubled
abbrev pub doubled_byte : ℕ → List ℕ
doubled_byte b = if is_quote b then b ∷ b ∷ [] else b ∷ []

abbrev pub doubled : List ℕ → List ℕ
doubled text = flat_map doubled_byte text

-- a text in quotes if it has to be and may be
abbrev pub quoted : Dialect → List ℕ → List ℕ
quoted dialect text =
    if is_some (quotes_of dialect.separation) && list_any (needs_quotes dialect) text then 34 ∷ doubled text ++ 34 ∷ [] else text

-- a field with this text in place of its own, and in quotes only if they are needed
abbrev pub replaced : Dialect → (field : List ℕ) → List ℕ → List ℕ
replaced dialect field text =
    let content = content_of dialect.separation field in
    quoted dialect (blanks_before content ++ text ++ blanks_after content) ++ tail_of dialect.separation field
