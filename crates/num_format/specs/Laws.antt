-- The laws that the functions of `laws` state.
use Rattle.std.specs.Prelude.{◌≡◌, ℕ, ◌<◌, ◌≤◌, List, length, IsUtf8, Ok}
use Rattle.num_format_text.specs.Format.{FormatData, IsWithinCapacity}
use Rattle.num_format_int.specs.declared.buffer.TheConstants.{MAX_BUF_LEN}
use Rattle.num_format_cldr.specs.declared.TheConstants.{LEN}
use Rattle.num_format.specs.Json.{buffer_in, buffer_json, format_in, format_json, locale_in, locale_json}
pub use Rattle.num_format_int.specs.Laws.{BoundLaw, DigitsLaw, EndsLaw, LengthLaw}
pub use Rattle.num_format_parsing.specs.Laws.{HasUsize, MinusSignLaw, ReadableLaw, StrictErrorHashLaw}
pub use Rattle.num_format_custom.specs.Laws.{BuildingLaw, CustomFormatLaw, EnglishLaw}
pub use Rattle.num_format_certificates.specs.Laws.{AlikeLaw, BothNeededLaw, DistinctTextsLaw, FourNeededLaw, RoundTripLaw, Utf8Law}

-- the JSON value of a buffer holds the same text, that of a format the same data, and that of a locale the same place
pub record JsonLaw : Type 0 where
  pub buffer : (text : List ℕ) → IsUtf8 text → length text ≤ MAX_BUF_LEN → buffer_in (buffer_json text) ≡ Ok text
  pub format : (f : FormatData) → IsWithinCapacity f → format_in (format_json f) ≡ Ok f
  pub locale : (place : ℕ) → place < LEN → locale_in (locale_json place) ≡ Ok place
