-- The table of locales.
use Rattle.std.specs.Prelude.{ℕ, ◌*◌, List, map, take, drop, encode_utf8_all, slice_index_or}
use Rattle.std.specs.List.{flat_map}
use Rattle.num_format_cldr.specs.Entry.{Entry, no_entry}
use Rattle.num_format_cldr.specs.Classes.{decimal_mark_of, separator_of}
use Rattle.num_format_cldr.specs.Families.{Member, members_of, families}
use Rattle.num_format_cldr.specs.Groupings.{grouping_of}
use Rattle.num_format_cldr.specs.Infinities.{infinity_of}
use Rattle.num_format_cldr.specs.Signs.{signs_of}
use Rattle.num_format_cldr.specs.Nans.{nan_of}
use Rattle.num_format_cldr.specs.declared.rows.TheConstants.{PIECE_LEN}

-- all names with their classes, in rising byte order
unfoldable pub members : List Member
members = flat_map members_of families

-- the entry of a name: its class gives the decimal mark and the separator, and the name all else
abbrev pub entry_of : Member → Entry
entry_of member = record {
  name = encode_utf8_all member.name;
  dec = encode_utf8_all (decimal_mark_of member.class);
  group = grouping_of member.name;
  inf = encode_utf8_all (infinity_of member.name);
  min = encode_utf8_all (signs_of member.name).minus;
  nan = encode_utf8_all (nan_of member.name);
  plus = encode_utf8_all (signs_of member.name).plus;
  sep = encode_utf8_all (separator_of member.class);
}

-- the entries of all locales, in rising byte order of their names
unfoldable pub table : List Entry
table = map entry_of members

-- the entry at a place, counted from 0
abbrev pub entry : ℕ → Entry
entry place = slice_index_or table place no_entry

-- the UTF-8 bytes of all names, in order
unfoldable pub table_names : List (List ℕ)
table_names = map (λ member. encode_utf8_all member.name) members

-- the entries from place `PIECE_LEN * k` on, at most `PIECE_LEN` of them: those of one module
unfoldable pub piece : ℕ → List Entry
piece k = map entry_of (take PIECE_LEN (drop (PIECE_LEN * k) members))
