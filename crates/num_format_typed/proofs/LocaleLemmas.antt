-- No locale is refused as ambiguous.
use Rattle.std.proofs.Common.{◌≡◌, ℕ, ◌<◌, true, length, refl, arith, ◌∙◌}
use Rattle.std.specs.List.{list_all}
use Rattle.std.specs.Str.{chars}
use Rattle.std.proofs.lemmas.List.{length-map}
use Rattle.std.proofs.lemmas.List.Elements.{All-get_or}
use Rattle.std.proofs.lemmas.List.Sums.{AllPass-from_list_all}
use lib.Utf8.{encode}
use Rattle.num_format_locale.specs.Data.{data_of, locale_data}
use Rattle.num_format_cldr.specs.Entry.{Entry, no_entry}
use Rattle.num_format_cldr.specs.Families.{families}
use Rattle.num_format_cldr.specs.Table.{entry_of, members, table}
use Rattle.num_format_cldr.specs.declared.TheConstants.{LEN}
use Rattle.num_format_cldr.proofs.Facts.{entry_is_well_formed}
use Rattle.num_format_cldr.proofs.Places.{length-members}
use Rattle.num_format_parsing.proofs.CommonLemmas.{unambiguous_from_common}
use Rattle.num_format_typed.specs.Typed.{IsTypable, core_of, separator_of}
use Rattle.num_format_typed.proofs.TypableLemmas.{passes, typable}
use Rattle.std.specs.Prelude.{Bool}

-- each locale passes
abbrev entry_passes : Entry → Bool
entry_passes e = passes (separator_of (data_of e)) (data_of e).decimal (core_of (data_of e))

all_pass : list_all (λ e. entry_passes e) table ≡ true
unfolding table members families chars encode
all_pass = refl

length-table : length table ≡ LEN
unfolding table
length-table = length-map members entry_of ∙ length-members

pub locale_typable : (place : ℕ) → place < LEN → IsTypable (locale_data place)
locale_typable place within =
    let well = entry_is_well_formed place within in
    typable (locale_data place) (unambiguous_from_common (locale_data place)
    (record { sign_given = well.min_given; sign = well.min_characters; separator = well.sep_characters }))
    (All-get_or (λ e. entry_passes e ≡ true) table place no_entry (omega (arith, length-table))
    (AllPass-from_list_all (λ e. entry_passes e) table all_pass))
