-- What texts are canonical for, and where they stop, each shown by computing it.
use Rattle.std.proofs.Common.{◌≡◌, refl, pos, negsuc, []}
use Rattle.std.specs.Prelude.{codes}
use Rattle.num_format_text.specs.declared.grouping.Grouping.TheVariants.{Indian, Posix}
use Rattle.num_format_int.specs.Digits.{digits}
use Rattle.num_format_text.specs.English.{english}
use Rattle.num_format_parsing.specs.Strict.{IsCanonical, with_separators, without_separators, unexpected}

grouped_number : IsCanonical english (codes "-1,234") (negsuc 1233)
unfolding digits
grouped_number = with_separators refl

plain_number : IsCanonical english (codes "-1234") (negsuc 1233)
unfolding digits
plain_number = without_separators refl

indian : IsCanonical (record english { grouping = Indian }) (codes "12,34,567") (pos 1234567)
unfolding digits
indian = with_separators refl

cents : unexpected english (codes "1,234.50") ≡ codes ".50"
cents = refl

separators_anywhere : unexpected english (codes "-,1,,2345,") ≡ []
separators_anywhere = refl

separator_never_printed : unexpected (record english { grouping = Posix }) (codes "1,234") ≡ codes ",234"
separator_never_printed = refl
