-- The data of a locale: how it writes numbers.
use Rattle.std.specs.Prelude.{ℕ, ◌==◌, if◌then◌else◌}
use Rattle.num_format_cldr.specs.Entry.{Entry}
use Rattle.num_format_cldr.specs.Groupings.{standard, indian}
use Rattle.num_format_cldr.specs.Table.{entry}
use Rattle.num_format_text.specs.declared.grouping.Grouping.{Grouping}
use Rattle.num_format_text.specs.declared.grouping.Grouping.TheVariants.{Standard, Indian, Posix}
use Rattle.num_format_text.specs.Format.{FormatData}

-- the `Grouping` of a group, 0 to 2, of the table
abbrev pub grouping_for : ℕ → Grouping
grouping_for group = if group == standard then Standard else (if group == indian then Indian else Posix)

-- the seven data of an entry of the table
abbrev pub data_of : Entry → FormatData
data_of e = record {
  decimal = e.dec;
  grouping = grouping_for e.group;
  infinity = e.inf;
  minus_sign = e.min;
  nan = e.nan;
  plus_sign = e.plus;
  separator = e.sep;
}

-- the seven data of the locale at a place
abbrev pub locale_data : ℕ → FormatData
locale_data place = data_of (entry place)
