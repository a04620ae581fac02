-- Where records of RFC 4180 and their fields end. A byte inside quotes ends none.
use Rattle.std.specs.Prelude.{◌≡◌, ℕ, ◌+◌, ◌≤◌, ◌==◌, length, take, suc, Bool, false, true, ◌&&◌, ◌||◌, not, nat_lt, if◌then◌else◌}
use Rattle.std.specs.Prelude.{List, [], ◌∷◌, Option, None, Some}
use Rattle.std.specs.List.{count_by, fold, onto_first}
use Rattle.std.specs.Option.{option_map}
use Rattle.regroup_core.specs.declared.record.Within.{Within}
use Rattle.regroup_core.specs.declared.record.Within.TheVariants.{Start, Bare, Quoted}

-- whether a byte is a quote
abbrev pub is_quote : ℕ → Bool
is_quote b = b == 34

-- whether the next byte is inside quotes
abbrev pub is_inside : Within → Bool
is_inside Start = false
is_inside Bare = false
is_inside Quoted = true

-- what follows a byte outside quotes that opens none
abbrev pub after_bare : (delimiter : ℕ) → ℕ → Within
after_bare delimiter b = if b == delimiter then Start else Bare

-- what follows a byte, by the delimiter of the fields that may be in quotes, if they may: a quote opens quotes as the first byte of a field
-- and, as the second of two, again after one that closes them
abbrev pub after_byte : (quotes : Option ℕ) → Within → ℕ → Within
after_byte None within b = within
after_byte (Some delimiter) Start b = if is_quote b then Quoted else after_bare delimiter b
after_byte (Some delimiter) Bare b = after_bare delimiter b
after_byte (Some delimiter) Quoted b = if is_quote b then Start else Quoted

-- what follows a text
abbrev pub after_text : (quotes : Option ℕ) → Within → List ℕ → Within
after_text quotes within text = fold (after_byte quotes) within text

-- whether a byte is this one and outside quotes
abbrev pub is_end : (end : ℕ) → Within → ℕ → Bool
is_end end within b = (b == end) && not (is_inside within)

-- where the first byte of a text is that is this one and outside quotes
abbrev pub end_of : (quotes : Option ℕ) → (end : ℕ) → Within → List ℕ → Option ℕ
end_of quotes end within [] = None
end_of quotes end within (b ∷ text) =
    if is_end end within b then Some 0 else option_map (λ n. suc n) (end_of quotes end (after_byte quotes within b) text)

-- the bytes of a record and the one that ends it, or all bytes
abbrev pub through_end : Option ℕ → List ℕ → List ℕ
through_end None text = text
through_end (Some end) text = take (end + 1) text

-- how many line ends some bytes have
abbrev pub ends_in : (line_end : ℕ) → List ℕ → ℕ
ends_in line_end text = count_by (λ b. b == line_end) text

-- what follows a record that ends, or all bytes of one that does not
abbrev pub state_after : (quotes : Option ℕ) → (end : Option ℕ) → Within → List ℕ → Within
state_after quotes None within text = after_text quotes within text
state_after quotes (Some end) within text = Start

-- a number of bytes as the place of an end, which is none if they are all
abbrev pub end_at : ℕ → List ℕ → Option ℕ
end_at n text = if nat_lt n (length text) then Some n else None

-- the parts of a text between bytes that are this one and outside quotes
abbrev pub split_at : (quotes : Option ℕ) → (end : ℕ) → Within → List ℕ → List (List ℕ)
split_at quotes end within [] = [] ∷ []
split_at quotes end within (b ∷ text) =
    if is_end end within b then [] ∷ split_at quotes end Start text
    else onto_first b (split_at quotes end (after_byte quotes within b) text)

-- whether there is such a byte
abbrev pub has_end : (quotes : Option ℕ) → (end : ℕ) → Within → List ℕ → Bool
has_end quotes end within [] = false
has_end quotes end within (b ∷ text) = is_end end within b || has_end quotes end (after_byte quotes within b) text

-- the first n bytes of a text, none of which ends a part, and where the byte after them is
pub record Searched (quotes : Option ℕ) (end : ℕ) (within : Within) (text : List ℕ) (n : ℕ) (here : Within) : Type 0 where
  pub inside : n ≤ length text
  pub none : has_end quotes end within (take n text) ≡ false
  pub there : here ≡ after_text quotes within (take n text)
