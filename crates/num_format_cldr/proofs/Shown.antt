-- The rows of a module show the entries of a piece, which is shown by computing.
use Rattle.std.proofs.Common.{◌≡◌, ◌<◌, ℕ, zero, suc, List, [], ◌∷◌, length, map, slice_index_or, refl, subst, arith}
use Rattle.std.specs.List.{AllZip}
use Rattle.num_format_cldr.specs.declared.record.Row.{Row}
use Rattle.num_format_cldr.specs.Entry.{Entry, Shows, ShowsAll}

-- the entry that a row shows
abbrev pub entry_from : Row → Entry
entry_from row = record {
  name = row.name.now;
  dec = row.dec.now;
  group = row.group;
  inf = row.inf.now;
  min = row.min.now;
  nan = row.nan.now;
  plus = row.plus.now;
  sep = row.sep.now;
}

-- each row shows that entry
each_shown : (rows : List Row) → AllZip Shows rows (map entry_from rows)
each_shown [] = tt
each_shown (row ∷ rows) =
    (record { name = refl; dec = refl; group = refl; inf = refl; min = refl; nan = refl; plus = refl; sep = refl }, each_shown rows)

-- so rows show the entries that they compute to
pub ShowsAll-from_equal : (rows : List Row) (entries : List Entry) → map entry_from rows ≡ entries → ShowsAll rows entries
ShowsAll-from_equal rows entries same = record { each = subst (AllZip Shows rows) same (each_shown rows) }

-- the row at a place shows the entry at that place
pub Shows-at : (rows : List Row) (entries : List Entry) (k : ℕ) (d : Row) (e : Entry) → AllZip Shows rows entries → k < length rows
    → Shows (slice_index_or rows k d) (slice_index_or entries k e)
Shows-at [] entries k d e shown within = absurd (omega arith)
Shows-at (row ∷ rows) [] k d e shown within = absurd shown
Shows-at (row ∷ rows) (entry ∷ entries) zero d e shown within = shown.0
Shows-at (row ∷ rows) (entry ∷ entries) (suc k) d e shown within = Shows-at rows entries k d e shown.1 (omega arith)
