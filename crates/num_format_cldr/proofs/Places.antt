-- Where the entries of the table stand in its pieces.
use Rattle.std.proofs.Common.{◌≡◌, ℕ, ◌+◌, ◌-◌, ◌*◌, ◌/◌, ◌%◌, ◌<◌, List, [], length, take, drop, slice_index_or, encode_utf8_all, refl}
use Rattle.std.proofs.Common.{sym, ap, subst, ◌∙◌, arith, min}
use Rattle.std.proofs.lemmas.List.{length-map, get_or-map, get_or-take, get_or-drop, drop-map, take-map, length-take, length-drop}
use Rattle.std.proofs.lemmas.Slice.Zip.{AllZip-long}
use Rattle.num_format_cldr.specs.declared.TheConstants.{LEN}
use Rattle.num_format_cldr.specs.declared.record.Row.{Row}
use Rattle.num_format_cldr.specs.declared.rows.TheConstants.{PIECE_LEN}
use Rattle.num_format_cldr.specs.Entry.{no_entry, Shows, ShowsAll}
use Rattle.num_format_cldr.specs.Classes.{A}
use Rattle.num_format_cldr.specs.Families.{Member, families}
use Rattle.num_format_cldr.specs.Table.{members, entry_of, table, entry, table_names, piece}
use Rattle.num_format_cldr.proofs.Shown.{Shows-at}

-- there are as many names as rows
pub length-members : length members ≡ LEN
unfolding members families
length-members = refl

-- the member at each place past the end of `members`
abbrev no_member : Member
no_member = record { name = []; class = A }

-- the member at a place
abbrev pub member : ℕ → Member
member place = slice_index_or members place no_member

-- the entry at a place is that of the member there
pub entry-member : (place : ℕ) → place < LEN → entry place ≡ entry_of (member place)
unfolding table
entry-member place within = get_or-map entry_of members place no_member no_entry (omega (arith, length-members))

-- the list of names and the table have the same name at a place
pub name_at : (place : ℕ) → place < LEN → slice_index_or table_names place [] ≡ (entry place).name
unfolding table_names
name_at place within =
    get_or-map (λ m. encode_utf8_all m.name) members place no_member [] (omega (arith, length-members))
    ∙ ap (λ e. e.name) (sym (entry-member place within))

-- a piece is a part of the table
piece-table : (k : ℕ) → piece k ≡ take PIECE_LEN (drop (PIECE_LEN * k) table)
unfolding piece table
piece-table k =
    sym (ap (take PIECE_LEN) (drop-map entry_of (PIECE_LEN * k) members) ∙ take-map entry_of PIECE_LEN (drop (PIECE_LEN * k) members))

-- the entry at a place stands in the piece of its quotient, at its remainder
entry_in_piece : (place : ℕ) → slice_index_or (piece (place / PIECE_LEN)) (place % PIECE_LEN) no_entry ≡ entry place
entry_in_piece place =
    let within : place % PIECE_LEN < PIECE_LEN = omega arith in
    let here : PIECE_LEN * (place / PIECE_LEN) + place % PIECE_LEN ≡ place = omega arith in
    ap (λ entries. slice_index_or entries (place % PIECE_LEN) no_entry) (piece-table (place / PIECE_LEN))
    ∙ get_or-take PIECE_LEN (drop (PIECE_LEN * (place / PIECE_LEN)) table) (place % PIECE_LEN) no_entry within
    ∙ get_or-drop (PIECE_LEN * (place / PIECE_LEN)) table (place % PIECE_LEN) no_entry
    ∙ ap (λ p. slice_index_or table p no_entry) here

-- all pieces but the last are full
length-piece : (k : ℕ) → length (piece k) ≡ min PIECE_LEN (LEN - PIECE_LEN * k)
unfolding piece
length-piece k =
    length-map (take PIECE_LEN (drop (PIECE_LEN * k) members)) entry_of
    ∙ length-take PIECE_LEN (drop (PIECE_LEN * k) members)
    ∙ ap (min PIECE_LEN) (length-drop (PIECE_LEN * k) members ∙ ap (λ n. n - PIECE_LEN * k) length-members)

-- rows that show the piece of a place
module _ (rows : List Row) (place : ℕ) (shown : ShowsAll rows (piece (place / PIECE_LEN))) where
  -- how many rows there are
  pub length-rows : length rows ≡ min PIECE_LEN (LEN - PIECE_LEN * (place / PIECE_LEN))
  length-rows = sym (AllZip-long Shows rows (piece (place / PIECE_LEN)) shown.each) ∙ length-piece (place / PIECE_LEN)

  -- the row of a place shows the entry there
  pub row_at : (d : Row) → place < LEN → Shows (slice_index_or rows (place % PIECE_LEN) d) (entry place)
  row_at d within =
      subst (Shows (slice_index_or rows (place % PIECE_LEN) d)) (entry_in_piece place)
      (Shows-at rows (piece (place / PIECE_LEN)) (place % PIECE_LEN) d no_entry shown.each (omega (arith, length-rows)))
